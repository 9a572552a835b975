-- Every outcome leads to an own position.
use Rattle.std.proofs.Common.{◌≡◌, ℕ, suc, ◌<◌, Bool, true, false, cond, not, ◌&&◌, ◌||◌, eqb, ltb, List, [], ◌∷◌, ◌++◌, map, length, Some, None, Option, sym, refl, ap, ◌∙◌, ap₂, arith}
use mathlib.Core.List.{map-map}
use lib.ListN.{length-map}
use Rattle.std.specs.List.{slice_get, AllByRecursion}
use Rattle.std.proofs.lemmas.Bool.{and_parts, and_from, eq-eqb}
use Rattle.std.proofs.lemmas.Bool.Decides.{nat_tests}
use Rattle.arena.specs.declared.moves.Side.{Side}
use Rattle.arena.specs.declared.moves.Side.TheVariants.{Us, Them}
use Rattle.clocks.specs.Regions.{Part, part, seen, rank, classed, waits, zeroed, Own}
use Rattle.clocks.proofs.Main.{kept_stand, fresh_stand}
use Rattle.clocks.proofs.Ticks.{rank_pos}
use Rattle.regions.specs.Code.{is_own}
use Rattle.regions.proofs.Owning.{own_from, own_to}
use Rattle.game.specs.declared.bounds.Bound.{Bound}
use Rattle.game.specs.declared.bounds.Bounds.{Bounds}
use Rattle.game.specs.Types.{Zone}
use Rattle.game.specs.declared.parts.Location.{Location}
use Rattle.game.specs.declared.parts.Edge.{Edge}
use Rattle.game.specs.Intervals.{zone, meets_high, meets, holds}
use Rattle.game.specs.Game.{Game, place, last_whole, ticks, same_side, invariant_of, resets_of, flags, carried, limits, keeps, owns, result_of, edge_fits, edge_at, may_take, legal, outcomes}
use Rattle.game.proofs.Rises.{waits_ceilings, keeps_between}
use Rattle.game.proofs.Outcomes.{owns_parts, allowed, all_outcomes}

-- the tick clock's whole part is 0 after a move
last_cons : (p : Part) (ps : List Part) → 0 < length ps → last_whole (p ∷ ps) ≡ last_whole ps
last_cons p [] l = let w : ⊥ = omega arith in absurd w
last_cons p (q ∷ ps) l = refl

last_classed : (f : ℕ → Bool) (ps : List Part) → last_whole (map (classed f) ps) ≡ last_whole ps
last_classed f [] = refl
last_classed f (p ∷ []) = refl
last_classed f (p ∷ q ∷ ps) = last_classed f (q ∷ ps)

length_zeroed : (bs : List Bool) (ps : List Part) → length (zeroed bs ps) ≡ length ps
length_zeroed [] ps = refl
length_zeroed (b ∷ bs) [] = refl
length_zeroed (b ∷ bs) (p ∷ ps) = ap suc (length_zeroed bs ps)

last_zeroed : (bs : List Bool) (b : Bool) (q : List Part) → length q ≡ suc (length bs) → last_whole (zeroed (bs ++ b ∷ []) q) ≡ cond b 0 (last_whole q)
last_zeroed [] b [] e = let w : ⊥ = omega arith in absurd w
last_zeroed [] true (p ∷ []) e = refl
last_zeroed [] false (p ∷ []) e = refl
last_zeroed [] b (p ∷ s ∷ q) e = let w : ⊥ = omega arith in absurd w
last_zeroed (a ∷ bs) b [] e = let w : ⊥ = omega arith in absurd w
last_zeroed (a ∷ bs) b (p ∷ q) e =
    let i : length q ≡ suc (length bs) = omega arith in
    let j = length_zeroed (bs ++ b ∷ []) q in
    last_cons (cond a (part p.ceiling 0 0) p) (zeroed (bs ++ b ∷ []) q) (omega arith) ∙ last_zeroed bs b q i ∙ ap (cond b 0) (sym (last_cons p q (omega arith)))

tick_zero : (bs : List Bool) (q : List Part) → length q ≡ suc (length bs) → last_whole (carried bs q) ≡ 0
tick_zero bs q e =
    last_classed (seen (zeroed (bs ++ ticks q ∷ []) q)) (zeroed (bs ++ ticks q ∷ []) q) ∙ last_zeroed bs (ticks q) q e ∙ none (last_whole q)
  where
    none : (n : ℕ) → cond (ltb 0 n) 0 n ≡ 0
    none n = grind (arith, nat_tests)

-- intervals see of a class only whether it is 0
meets_rest : (i : Bounds) (c w a b : ℕ) → eqb a 0 ≡ eqb b 0 → meets i (part c w a) ≡ meets i (part c w b)
meets_rest i c w a b e =
    let p : ltb 0 a ≡ ltb 0 b = grind (arith, nat_tests) in
    ap₂ ◌&&◌ (ap₂ (λ s t. (ltb i.low.at w || (eqb w i.low.at && s)) || (not i.low.open && (eqb w i.low.at && t))) p e) (high i.high p)
  where
    high : (h : Option Bound) → ltb 0 a ≡ ltb 0 b → meets_high h (part c w a) ≡ meets_high h (part c w b)
    high None p = refl
    high (Some h) p = ap₂ (λ s t. not (ltb h.at w || (eqb w h.at && s)) && (not h.open || not (eqb w h.at && t))) p e

holds_classed : (f : ℕ → Bool) (is : List Bounds) (ps : List Part) → holds is (map (classed f) ps) ≡ holds is ps
holds_classed f [] ps = refl
holds_classed f (i ∷ is) [] = refl
holds_classed f (i ∷ is) (p ∷ ps) = ap₂ ◌&&◌ (meets_rest i p.ceiling p.whole (rank f p.rest) p.rest (rank_pos f p.rest)) (holds_classed f is ps)

-- nor do they see the tick clock
zone_kept : (b : Bool) (z : Zone) (q : List Part) → holds (zone z) (zeroed (false ∷ false ∷ false ∷ b ∷ []) q) ≡ holds (zone z) q
zone_kept b z [] = refl
zone_kept b z (p ∷ []) = refl
zone_kept b z (p ∷ q ∷ []) = refl
zone_kept b z (p ∷ q ∷ r ∷ s) = refl

-- ceilings stay
zeroed_ceilings : (bs : List Bool) (ps : List Part) → map (λ p. p.ceiling) (zeroed bs ps) ≡ map (λ p. p.ceiling) ps
zeroed_ceilings [] ps = refl
zeroed_ceilings (b ∷ bs) [] = refl
zeroed_ceilings (true ∷ bs) (p ∷ ps) = ap (λ cs. p.ceiling ∷ cs) (zeroed_ceilings bs ps)
zeroed_ceilings (false ∷ bs) (p ∷ ps) = ap (λ cs. p.ceiling ∷ cs) (zeroed_ceilings bs ps)

carried_ceilings : (bs : List Bool) (q : List Part) → map (λ p. p.ceiling) (carried bs q) ≡ map (λ p. p.ceiling) q
carried_ceilings bs q =
    map-map (λ p. p.ceiling) (classed (seen (zeroed (bs ++ ticks q ∷ []) q))) (zeroed (bs ++ ticks q ∷ []) q) ∙ zeroed_ceilings (bs ++ ticks q ∷ []) q

module _ (g : Game) where
  -- a plain wait keeps the invariant
  keeps_plain : (l : ℕ) (q : List Part) → keeps g l q ≡ true → keeps g l (carried (resets_of None) q) ≡ true
  keeps_plain l q h = at (slice_get g.locations l) h
    where
      at : (o : Option Location) → invariant_of o q ≡ true → invariant_of o (carried (resets_of None) q) ≡ true
      at None h = h
      at (Some x) h =
          holds_classed (seen (zeroed (resets_of None ++ ticks q ∷ []) q)) (zone x.invariant) (zeroed (resets_of None ++ ticks q ∷ []) q)
          ∙ zone_kept (ticks q) x.invariant q ∙ h

  lands : (l : ℕ) (bs : List Bool) (q : List Part) → Own q → length q ≡ suc (length bs) → keeps g l (carried bs q) ≡ true → owns g (place l (carried bs q)) ≡ true
  lands l bs q w n k =
      and_from (is_own (carried bs q)) (eqb (last_whole (carried bs q)) 0 && keeps g l (carried bs q)) (own_to (carried bs q) (fresh_stand (bs ++ ticks q ∷ []) q w))
      (and_from (eqb (last_whole (carried bs q)) 0) (keeps g l (carried bs q)) (eq-eqb (last_whole (carried bs q)) 0 (tick_zero bs q n)) k)

  -- a move that may be made in an own region of four clocks leads to an own position
  result_own : (s : Side) (l : ℕ) (q : List Part) (e : Option ℕ) → Own q → length q ≡ 4 → keeps g l q ≡ true → may_take g s l q e ≡ true
      → owns g (result_of g s l (edge_at g e) q).position ≡ true
  result_own s l q None w n k h = lands l (resets_of None) q w n (keeps_plain l q k)
  result_own s l q (Some i) w n k h = at (slice_get g.edges i) h
    where
      at : (o : Option Edge) → edge_fits g s l q o ≡ true → owns g (result_of g s l o q).position ≡ true
      at None h = let z : ◌≡◌ {A = ℕ} 0 1 = cc in let n : ⊥ = omega arith in absurd n
      at (Some d) h =
          let a = and_parts (same_side d.side s) (eqb d.from l && (holds (zone d.guard) q && keeps g d.to (carried (flags d.resets) q))) h in
          let b = and_parts (eqb d.from l) (holds (zone d.guard) q && keeps g d.to (carried (flags d.resets) q)) a.1 in
          let c = and_parts (holds (zone d.guard) q) (keeps g d.to (carried (flags d.resets) q)) b.1 in
          lands d.to (flags d.resets) q w n c.1

  module _ (l : ℕ) (r : List Part) (k : ℕ) (e : Option ℕ) (c : map (λ p. p.ceiling) r ≡ limits g) where
    four : (j : ℕ) (q : List Part) → waits j r ≡ Some q → length q ≡ 4
    four j q w = sym (length-map q (λ p. p.ceiling)) ∙ ap length (waits_ceilings j r q w ∙ c)

    -- every outcome of a legal move is at an own position of the game's clocks
    pub outcomes_own : legal g Us (place l r) k e ≡ true
        → AllByRecursion (λ o. (owns g o.position ≡ true) × (map (λ p. p.ceiling) o.position.region ≡ limits g)) (outcomes g (place l r) k e)
    outcomes_own h =
        let a = allowed g Us l r k e h in
        let b = owns_parts g l r a.own in
        let w : Own r = own_from r b.0 in
        all_outcomes g l r k e (λ o. (owns g o.position ≡ true) × (map (λ p. p.ceiling) o.position.region ≡ limits g))
        (λ q v.
        let i : Some q ≡ Some a.reached = sym v ∙ a.waited in
        let j : q ≡ a.reached = cc in (
          result_own Us l q e (kept_stand k r q w v) (four k q v) (ap (keeps g l) j ∙ a.kept) (ap (λ q. may_take g Us l q e) j ∙ a.taken),
          carried_ceilings (resets_of (edge_at g e)) q ∙ waits_ceilings k r q v ∙ c,
        ))
        (λ j n q v f t. (
          result_own Them l q f (kept_stand j r q w v) (four j q v) (keeps_between g l r q a.reached j k n v a.waited b.2 a.kept) t,
          carried_ceilings (resets_of (edge_at g f)) q ∙ waits_ceilings j r q v ∙ c,
        ))
