-- Clocks that stand past, and clocks that are not there.
use Rattle.std.proofs.Common.{◌≡◌, ℕ, zero, suc, ◌+◌, ◌<◌, ◌≤◌, max, Bool, true, false, cond, not, ◌&&◌, ◌||◌, eqb, ltb, List, [], ◌∷◌, ◌++◌, map, length, Some, None, Option, sym, refl, ap, ◌∙◌, subst, ap₂, inl, inr, arith}
use mathlib.Core.Bool.{or-true}
use Rattle.std.specs.Option.{option_map}
use Rattle.std.specs.List.{insert, AllByRecursion}
use Rattle.std.proofs.ByRecursion.{All-map, All-weaker}
use Rattle.std.proofs.lemmas.Bool.{cases_Bool, and_parts, ltb-true}
use Rattle.std.proofs.lemmas.Bool.Decides.{nat_tests}
use Rattle.arena.specs.declared.moves.Side.{Side}
use Rattle.arena.specs.declared.moves.Side.TheVariants.{Us, Them}
use Rattle.clocks.specs.Regions.{Part, part, some, seen, upto, rank, classed, ranked, resting, rising, leave, arrive, top, next, onward, waits, zeroed}
use Rattle.clocks.proofs.Lists.{map_ext}
use Rattle.regions.specs.Code.{tick_ceiling}
use Rattle.game.specs.declared.bounds.Bound.{Bound}
use Rattle.game.specs.declared.bounds.Bounds.{Bounds}
use Rattle.game.specs.declared.parts.Edge.{Edge}
use Rattle.game.specs.Intervals.{unending, everywhere, meets_high, meets, holds}
use Rattle.game.specs.Game.{Game, ticks, resets_of, fresh, limits, edge_at, result_of, resettable, resetting, suits, sound}
use Rattle.game.specs.Absent.{Past, Absent, AbsentPast, StayAbsent}
use Rattle.game.proofs.Sounds.{sound_edge_lem}
use Rattle.game.proofs.Rises.{next_cases, waits_keep, waits_ceilings}
use Rattle.game.proofs.Outcomes.{all_outcomes}

-- one element more, at place i
map_inserted : {X Y : Type 0} (f : X → Y) (r : List X) (i : ℕ) (p : X) → map f (insert r i p) ≡ insert (map f r) i (f p)
map_inserted f r zero p = refl
map_inserted f [] (suc i) p = refl
map_inserted f (q ∷ r) (suc i) p = ap (λ s. f q ∷ s) (map_inserted f r i p)

some_inserted : {X : Type 0} (f : X → Bool) (r : List X) (i : ℕ) (p : X) → f p ≡ false → some f (insert r i p) ≡ some f r
some_inserted f r zero p e = ap (λ b. b || some f r) e
some_inserted f [] (suc i) p e = ap (λ b. b || false) e
some_inserted f (q ∷ r) (suc i) p e = ap (λ b. f q || b) (some_inserted f r i p e)

top_inserted : (r : List Part) (i : ℕ) (p : Part) → p.rest ≡ 0 → top (insert r i p) ≡ top r
top_inserted r zero p e = omega arith
top_inserted [] (suc i) p e = omega arith
top_inserted (q ∷ r) (suc i) p e = ap (max q.rest) (top_inserted r i p e)

zeroed_inserted : (bs : List Bool) (r : List Part) (i : ℕ) (p : Part) → i ≤ length bs → i ≤ length r → zeroed (insert bs i false) (insert r i p) ≡ insert (zeroed bs r) i p
zeroed_inserted bs r zero p l m = refl
zeroed_inserted [] r (suc i) p l m = let w : ⊥ = omega arith in absurd w
zeroed_inserted (b ∷ bs) [] (suc i) p l m = let w : ⊥ = omega arith in absurd w
zeroed_inserted (b ∷ bs) (q ∷ r) (suc i) p l m = ap (λ s. cond b (part q.ceiling 0 0) q ∷ s) (zeroed_inserted bs r i p (omega arith) (omega arith))

holds_inserted : (bs : List Bounds) (r : List Part) (i : ℕ) (b : Bounds) (p : Part) → i ≤ length bs → i ≤ length r → meets b p ≡ true → holds (insert bs i b) (insert r i p) ≡ holds bs r
holds_inserted bs r zero b p l m e = ap (λ t. t && holds bs r) e
holds_inserted [] r (suc i) b p l m e = let w : ⊥ = omega arith in absurd w
holds_inserted (c ∷ bs) [] (suc i) b p l m e = let w : ⊥ = omega arith in absurd w
holds_inserted (c ∷ bs) (q ∷ r) (suc i) b p l m e = ap (λ t. meets c q && t) (holds_inserted bs r i b p (omega arith) (omega arith) e)

module _ (p : Part) (i : ℕ) (h : Past p) where
  leave_past : (up : Bool) → leave up p ≡ p
  leave_past up = let a : ltb p.ceiling p.whole ≡ true = grind (arith, nat_tests) in rw a

  arrive_past : (t : ℕ) → 0 < t → arrive t p ≡ p
  arrive_past t z = let a : eqb p.rest t ≡ false = grind (arith, nat_tests) in rw a

  map_past : (f : Part → Part) (r : List Part) → f p ≡ p → map f (insert r i p) ≡ insert (map f r) i p
  map_past f r e = map_inserted f r i p ∙ ap (insert (map f r) i) e

  next_past : (r : List Part) → next (insert r i p) ≡ option_map (λ q. insert q i p) (next r)
  next_past r =
      let a : some resting (insert r i p) ≡ some resting r = some_inserted resting r i p (grind (arith, nat_tests)) in
      let b : some rising (insert r i p) ≡ some rising r = some_inserted rising r i p (grind (arith, nat_tests)) in
      let t : top (insert r i p) ≡ top r = top_inserted r i p h.1 in
      rw (a, b, t) (ways (some resting r) (some rising r))
    where
      ways : (s up : Bool) → cond s (Some (map (leave up) (insert r i p))) (cond (ltb 0 (top r)) (Some (map (arrive (top r)) (insert r i p))) None)
          ≡ option_map (λ q. insert q i p) (cond s (Some (map (leave up) r)) (cond (ltb 0 (top r)) (Some (map (arrive (top r)) r)) None))
      ways true up = ap Some (map_past (leave up) r (leave_past up))
      ways false up = elim (cases_Bool (ltb 0 (top r))) [
        | inl w ↦ rw w (ap Some (map_past (arrive (top r)) r (arrive_past (top r) (ltb-true 0 (top r) w))))
        | inr w ↦ rw w
      ]

  onward_past : (o : Option (List Part)) → onward (option_map (λ q. insert q i p) o) ≡ option_map (λ q. insert q i p) (onward o)
  onward_past None = refl
  onward_past (Some r) = next_past r

  waits_past : (r : List Part) (n : ℕ) → waits n (insert r i p) ≡ option_map (λ q. insert q i p) (waits n r)
  waits_past r zero = refl
  waits_past r (suc n) = ap onward (waits_past r n) ∙ onward_past (waits n r)

  upto_past : (r : List Part) (n : ℕ) → upto (seen (insert r i p)) n ≡ upto (seen r) n
  upto_past r zero = refl
  upto_past r (suc n) =
      let a : eqb p.rest (suc n) ≡ false = grind (arith, nat_tests) in
      ap₂ (λ u b. u + cond b 1 0) (upto_past r n) (some_inserted (λ q. eqb q.rest (suc n)) r i p a)

  rank_past : (r : List Part) (v : ℕ) → rank (seen (insert r i p)) v ≡ rank (seen r) v
  rank_past r zero = refl
  rank_past r (suc v) = ap suc (upto_past r v)

  ranked_past : (r : List Part) → ranked (insert r i p) ≡ insert (ranked r) i p
  ranked_past r =
      map_ext (classed (seen (insert r i p))) (classed (seen r)) (λ q. ap (part q.ceiling q.whole) (rank_past r q.rest)) (insert r i p)
      ∙ map_past (classed (seen r)) r (ap (λ n. part p.ceiling p.whole (rank (seen r) n)) h.1 ∙ ap (part p.ceiling p.whole) (sym h.1))

  meets_past : (b : Bounds) → everywhere b ≡ true → meets b p ≡ true
  meets_past b e =
      let t = and_parts (eqb b.low.at 0) (not b.low.open && unending b.high) e in
      let u = and_parts (not b.low.open) (unending b.high) t.1 in
      let a : ltb b.low.at p.whole ≡ true = grind (arith, nat_tests) in
      rw a (high b.high u.1)
    where
      high : (o : Option Bound) → unending o ≡ true → meets_high o p ≡ true
      high None e = refl
      high (Some c) e = let z : ◌≡◌ {A = ℕ} 0 1 = cc in let w : ⊥ = omega arith in absurd w

pub absent : Absent
absent p r i h l =
    record {
      nexts = next_past p i h r;
      waited = waits_past p i h r;
      resets = λ bs m. ap ranked (zeroed_inserted bs r i p m l) ∙ ranked_past p i h (zeroed bs r);
      intervals = λ bs b m e. holds_inserted bs r i b p m l (meets_past p i h b e);
    }

-- a clock that is not there stays past
leave_absent : (up : Bool) (p : Part) → AbsentPast p → AbsentPast (leave up p)
leave_absent up p h c = let e : p.ceiling ≡ 0 = grind (arith, nat_tests) in let t = h e in (grind (arith, nat_tests), grind (arith, nat_tests))

arrive_absent : (t : ℕ) (p : Part) → 0 < t → AbsentPast p → AbsentPast (arrive t p)
arrive_absent t p z h c = let e : p.ceiling ≡ 0 = grind (arith, nat_tests) in let u = h e in (grind (arith, nat_tests), grind (arith, nat_tests))

next_absent : (r a : List Part) → next r ≡ Some a → AllByRecursion AbsentPast r → AllByRecursion AbsentPast a
next_absent r a e h = elim (next_cases r a e) [
  | inl i ↦ subst (AllByRecursion AbsentPast) i (All-map AbsentPast (leave (some rising r)) r (All-weaker AbsentPast (λ p. AbsentPast (leave (some rising r) p)) (leave_absent (some rising r)) r h))
  | inr i ↦ subst (AllByRecursion AbsentPast) i.1 (All-map AbsentPast (arrive (top r)) r (All-weaker AbsentPast (λ p. AbsentPast (arrive (top r) p)) (λ p k. arrive_absent (top r) p i.0 k) r h))
]

classed_absent : (f : ℕ → Bool) (p : Part) → AbsentPast p → AbsentPast (classed f p)
classed_absent f p h c = ((h c).0, ap (rank f) (h c).1)

-- a reset that spares the clocks that are not there
abbrev Spares : List Bool → List ℕ → Type 0
Spares [] cs = Unit {0}
Spares (b ∷ bs) [] = Unit {0}
Spares (b ∷ bs) (c ∷ cs) = (resettable c b ≡ true) × Spares bs cs

zeroed_absent : (bs : List Bool) (r : List Part) → Spares bs (map (λ p. p.ceiling) r) → AllByRecursion AbsentPast r → AllByRecursion AbsentPast (zeroed bs r)
zeroed_absent [] r s h = h
zeroed_absent (b ∷ bs) [] s h = tt
zeroed_absent (true ∷ bs) (p ∷ r) s h = (λ c. let z : ⊥ = grind (arith, nat_tests) in absurd z, zeroed_absent bs r s.1 h.1)
zeroed_absent (false ∷ bs) (p ∷ r) s h = (h.0, zeroed_absent bs r s.1 h.1)

fresh_absent : (c : ℕ) → AbsentPast (fresh c)
fresh_absent c e = (grind (arith, nat_tests), refl)

module _ (g : Game) (s : sound g ≡ true) where
  spares : (o : Option Edge) (b : Bool) → ((d : Edge) → o ≡ Some d → resetting g.ceilings d.resets ≡ true) → Spares (resets_of o ++ b ∷ []) (limits g)
  spares None b h = (or-true (ltb 0 g.ceilings.x), (or-true (ltb 0 g.ceilings.y), (or-true (ltb 0 g.ceilings.z), (refl, tt))))
  spares (Some d) b h =
      let x : Bool = resettable g.ceilings.x d.resets.x in
      let y : Bool = resettable g.ceilings.y d.resets.y in
      let z : Bool = resettable g.ceilings.z d.resets.z in
      let t = and_parts x (y && z) (h d refl) in
      let u = and_parts y z t.1 in
      (t.0, (u.0, (u.1, (refl, tt))))

  edge_resets : (e : Option ℕ) (d : Edge) → edge_at g e ≡ Some d → resetting g.ceilings d.resets ≡ true
  edge_resets None d w = let z : ◌≡◌ {A = ℕ} 0 1 = cc in let n : ⊥ = omega arith in absurd n
  edge_resets (Some i) d w =
      let t = and_parts (ltb d.from (length g.locations)) (ltb d.to (length g.locations) && (resetting g.ceilings d.resets && suits g.ceilings d.guard)) (sound_edge_lem g s i d w) in
      let u = and_parts (ltb d.to (length g.locations)) (resetting g.ceilings d.resets && suits g.ceilings d.guard) t.1 in
      (and_parts (resetting g.ceilings d.resets) (suits g.ceilings d.guard) u.1).0

  result_absent : (v : Side) (l j : ℕ) (e : Option ℕ) (r q : List Part) → map (λ p. p.ceiling) r ≡ limits g → AllByRecursion AbsentPast r → waits j r ≡ Some q
      → AllByRecursion AbsentPast (result_of g v l (edge_at g e) q).position.region
  result_absent v l j e r q c h w =
      let bs : List Bool = resets_of (edge_at g e) ++ ticks q ∷ [] in
      let i : limits g ≡ map (λ p. p.ceiling) q = sym (waits_ceilings j r q w ∙ c) in
      let t : Spares bs (map (λ p. p.ceiling) q) = subst (Spares bs) i (spares (edge_at g e) (ticks q) (edge_resets e)) in
      All-map AbsentPast (classed (seen (zeroed bs q))) (zeroed bs q)
      (All-weaker AbsentPast (λ p. AbsentPast (classed (seen (zeroed bs q)) p)) (classed_absent (seen (zeroed bs q))) (zeroed bs q)
      (zeroed_absent bs q t (waits_keep (AllByRecursion AbsentPast) next_absent j r q w h)))

pub stay_absent : StayAbsent
stay_absent g s = (
  (fresh_absent g.ceilings.x, (fresh_absent g.ceilings.y, (fresh_absent g.ceilings.z, (fresh_absent tick_ceiling, tt)))),
  λ l r k e c h. all_outcomes g l r k e (λ o. AllByRecursion AbsentPast o.position.region)
      (λ q w. result_absent g s Us l k e r q c h w)
      (λ j n q w f t. result_absent g s Them l j f r q c h w),
)
