-- The laws of readings at a scale.
use Rattle.std.proofs.Common.{◌≡◌, ℕ, zero, suc, ◌+◌, ◌*◌, ◌<◌, Bool, true, false, cond, eqb, ltb, leb, List, [], ◌∷◌, map, Some, None, sym, refl, ap, ◌∙◌, ap₂, arith}
use Rattle.std.proofs.lemmas.Bool.{le-ltb}
use Rattle.std.proofs.lemmas.Bool.Decides.{nat_tests}
use Rattle.clocks.specs.Regions.{Part, Clock, clock, part, spot, seen, ranked, region_of, later}
use Rattle.clocks.proofs.Lists.{map_ext}
use Rattle.clocks.proofs.Main.{scales_stand, holds_stand, delays_stand}
use Rattle.clocks.proofs.Resets.{guards_stand, restarts_stand}
use Rattle.regions.specs.Types.{Restart}
use Rattle.regions.specs.Code as code
use Rattle.regions.specs.Code.{tick_ceiling, ceiled, flags}
use Rattle.readings.specs.declared.scaled.Readings.{Readings}
use Rattle.readings.specs.View.{clocks_of, view, fresh, may_refine, finer_by, refined, delayed, reset, region_in}
use Rattle.readings.specs.Time.{timing, grown, round, refine, after}
use Rattle.readings.specs.Theorems.{Begins, Refines, Elapses, Restarts, Ticks, timed, Timed}
use Rattle.readings.proofs.Limits.{limits}

scale_some : (r : Readings) → 0 < r.scale
scale_some r = (limits r).some

-- what there is under a test that may fail
cond_some : {A : Type 0} (b : Bool) (x y : A) → Some x ≡ cond b (Some y) None → (b ≡ true) × (x ≡ y)
cond_some true x y e = (refl, cc)
cond_some false x y e = let z : ◌≡◌ {A = ℕ} 0 1 = cc in let w : ⊥ = omega arith in absurd w

may_some : (k D : ℕ) → may_refine k D ≡ true → 0 < k
may_some k D h = grind (arith, nat_tests)

fresh_spot : (c : ℕ) → spot 1 (fresh c) ≡ part c (cond (eqb c 0) 1 0) 0
fresh_spot zero = refl
fresh_spot (suc c) =
    let a : ltb (suc c * 1) 0 ≡ false = le-ltb (suc c * 1) 0 (omega arith) in
    let b : eqb (suc c) 0 ≡ false = grind (arith, nat_tests) in
    rw (b, a)

pub begins : Begins
begins c r e =
    let v = (cond_some (ceiled c) (view r) (record { ceilings = c; scale = 1; clocks = map fresh (code.limits c) }) e).1 in
    let s : map (λ u. spot 1 (fresh u)) (code.limits c) ≡ map (λ u. part u (cond (eqb u 0) 1 0) 0) (code.limits c) = map_ext _ _ fresh_spot (code.limits c) in
    ap region_in v ∙ ap ranked s

pub refines : Refines
refines k r s e =
    let t = cond_some (may_refine k r.scale) (view s) (finer_by k (view r)) e in
    ap region_in t.1 ∙ scales_stand k r.scale (clocks_of r) (may_some k r.scale t.0) (scale_some r)

pub elapses : Elapses
elapses d r s e =
    let h : region_in (view s) ≡ region_of r.scale (later d (clocks_of r)) = ap region_in e ∙ holds_stand r.scale (later d (clocks_of r)) (scale_some r) in
    let t = delays_stand r.scale (clocks_of r) (scale_some r) in
    (h, (t.0 d, t.2 d ∙ ap Some (sym h)))

pub restarts : Restarts
restarts b r s e = ap region_in e ∙ restarts_stand r.scale (flags b) (clocks_of r) (scale_some r)

-- the tick clock's part and reading
abbrev last_whole : List Part → ℕ
last_whole [] = 0
last_whole (p ∷ []) = p.whole
last_whole (p ∷ q ∷ ps) = last_whole (q ∷ ps)

abbrev last_reading : List Clock → ℕ
last_reading [] = 0
last_reading (x ∷ []) = x.reading
last_reading (x ∷ y ∷ xs) = last_reading (y ∷ xs)

pub ticks : Ticks
ticks r q e =
    let t = (guards_stand r.scale 1 (seen (map (spot r.scale) (clocks_of r))) (clock tick_ceiling r.grains.tick) (scale_some r) (omega arith)).0 in
    flips r.scale r.grains.tick _ _ t (ap last_whole e)
  where
    flips : (D n v w : ℕ) → ltb n (1 * D) ≡ ltb v 1 → w ≡ v → leb D n ≡ ltb 0 w
    flips D n v w e i = grind (arith, nat_tests)

pub times : Timed
times = record { rounds = rounds; refines = refines_timed }
  where
    restarted_reading : (b : Bool) (n : ℕ) → (cond b (clock tick_ceiling 0) (clock tick_ceiling n)).reading ≡ cond b 0 n
    restarted_reading true n = refl
    restarted_reading false n = refl

    rounds : (d t n : ℕ) (b : Restart) (r s q : Readings)
        → view s ≡ delayed d (view r) → b.tick ≡ leb s.scale s.grains.tick → view q ≡ reset (flags b) (view s)
        → timed q (t + d) (n + cond b.tick 1 0) ≡ after (round d) (timed r t n)
    rounds d t n b r s q e i f =
        let now = timed r t n in
        let D : s.scale ≡ r.scale = ap (λ v. v.scale) e in
        let x : s.grains.tick ≡ grown d now = ap (λ v. last_reading v.clocks) e in
        let y : q.grains.tick ≡ cond b.tick 0 (grown d now) =
        ap (λ v. last_reading v.clocks) f ∙ restarted_reading b.tick s.grains.tick ∙ ap (cond b.tick 0) x in
        ap₂ (λ D x. timing D x (t + d) (n + cond b.tick 1 0)) (ap (λ v. v.scale) f ∙ D) y
        ∙ ap (λ w. timing r.scale (cond w 0 (grown d now)) (t + d) (n + cond w 1 0)) (i ∙ ap₂ leb D x)

    refines_timed : (k t n : ℕ) (r s : Readings) → Some (view s) ≡ refined k (view r) → timed s (k * t) n ≡ after (refine k) (timed r t n)
    refines_timed k t n r s e =
        let v = (cond_some (may_refine k r.scale) (view s) (finer_by k (view r)) e).1 in
        ap₂ (λ D x. timing D x (k * t) n) (ap (λ v. v.scale) v) (ap (λ v. last_reading v.clocks) v)
