-- Clocks only rise while they wait, so what holds before and after a wait holds throughout.
use Rattle.std.proofs.Common.{◌≡◌, ℕ, zero, suc, ◌+◌, ◌*◌, ◌<◌, ◌≤◌, Bool, true, false, cond, not, ◌&&◌, ◌||◌, eqb, ltb, ◌⊎◌, List, [], ◌∷◌, map, Some, None, Option, sym, refl, ap, ◌∙◌, subst, ap₂, inl, inr, arith}
use Rattle.std.specs.List.{slice_get, AllZip}
use Rattle.std.proofs.lemmas.Bool.{cases_eq, cases_Bool, and_parts, and_from}
use Rattle.std.proofs.lemmas.Bool.Decides.{nat_tests}
use Rattle.clocks.specs.Regions.{Part, some, resting, rising, leave, arrive, top, next, onward, waits}
use Rattle.game.specs.declared.bounds.Bound.{Bound}
use Rattle.game.specs.declared.bounds.Bounds.{Bounds}
use Rattle.game.specs.declared.parts.Location.{Location}
use Rattle.game.specs.Intervals.{zone, equals, exceeds, meets_low, meets_high, meets, holds}
use Rattle.game.specs.Game.{Game, invariant_of, keeps}

-- twice the whole part, and one more with a positive class
abbrev height : Part → ℕ
height p = 2 * p.whole + cond (eqb p.rest 0) 0 1

abbrev Rise : Part → Part → Type 0
Rise p q = (p.ceiling ≡ q.ceiling) × (height p ≤ height q)

abbrev Rises : List Part → List Part → Type 0
Rises r a = AllZip Rise r a

leave_rises : (up : Bool) (p : Part) → Rise p (leave up p)
leave_rises up p = grind (arith, nat_tests)

arrive_rises : (t : ℕ) (p : Part) → Rise p (arrive t p)
arrive_rises t p = grind (arith, nat_tests)

map_rises : (f : Part → Part) → ((p : Part) → Rise p (f p)) → (r : List Part) → Rises r (map f r)
map_rises f h [] = tt
map_rises f h (p ∷ r) = (h p, map_rises f h r)

same_rises : (r : List Part) → Rises r r
same_rises [] = tt
same_rises (p ∷ r) = ((refl, omega arith), same_rises r)

then_rises : (a b c : List Part) → Rises a b → Rises b c → Rises a c
then_rises [] [] [] h k = tt
then_rises [] [] (z ∷ c) h k = k
then_rises [] (y ∷ b) c h k = absurd h
then_rises (x ∷ a) [] c h k = absurd h
then_rises (x ∷ a) (y ∷ b) [] h k = k
then_rises (x ∷ a) (y ∷ b) (z ∷ c) h k = ((h.0.0 ∙ k.0.0, omega arith), then_rises a b c h.1 k.1)

-- the two ways to a next region
pub next_cases : (r a : List Part) → next r ≡ Some a
    → (map (leave (some rising r)) r ≡ a) ⊎ ((0 < top r) × (map (arrive (top r)) r ≡ a))
next_cases r a e = elim (cases_Bool (some resting r)) [
  | inl t ↦ let i : Some (map (leave (some rising r)) r) ≡ Some a = sym (rw t) ∙ e in inl (cc)
  | inr t ↦ elim (cases_Bool (ltb 0 (top r))) [
    | inl u ↦ let i : Some (map (arrive (top r)) r) ≡ Some a = sym (rw (t, u)) ∙ e in inr (grind (arith, nat_tests), cc)
    | inr u ↦ let i : None ≡ Some a = sym (rw (t, u)) ∙ e in let n : ◌≡◌ {A = ℕ} 0 1 = cc in let w : ⊥ = omega arith in absurd w
  ]
]

next_rises : (r a : List Part) → next r ≡ Some a → Rises r a
next_rises r a e = elim (next_cases r a e) [
  | inl i ↦ subst (Rises r) i (map_rises (leave (some rising r)) (leave_rises (some rising r)) r)
  | inr i ↦ subst (Rises r) i.1 (map_rises (arrive (top r)) (arrive_rises (top r)) r)
]

-- what each next region keeps, a wait keeps
pub waits_keep : (P : List Part → Type 0) → ((q a : List Part) → next q ≡ Some a → P q → P a)
    → (n : ℕ) (r a : List Part) → waits n r ≡ Some a → P r → P a
waits_keep P step zero r a e h = let i : r ≡ a = cc in subst P i h
waits_keep P step (suc n) r a e h = from (waits n r) refl e (λ q u. waits_keep P step n r q u h)
  where
    from : (o : Option (List Part)) → waits n r ≡ o → onward o ≡ Some a → ((q : List Part) → waits n r ≡ Some q → P q) → P a
    from None u e ih = let z : ◌≡◌ {A = ℕ} 0 1 = cc in let w : ⊥ = omega arith in absurd w
    from (Some q) u e ih = step q a e (ih q u)

pub waits_rises : (j k : ℕ) (r a b : List Part) → j ≤ k → waits j r ≡ Some a → waits k r ≡ Some b → Rises a b
waits_rises j zero r a b l v w =
    let i : j ≡ 0 = omega arith in
    let u : Some a ≡ Some b = sym v ∙ ap (λ n. waits n r) i ∙ w in
    let s : a ≡ b = cc in subst (Rises a) s (same_rises a)
waits_rises j (suc k) r a b l v w = elim (cases_eq j (suc k)) [
  | inl i ↦ let u : Some a ≡ Some b = sym v ∙ ap (λ n. waits n r) i ∙ w in let s : a ≡ b = cc in subst (Rises a) s (same_rises a)
  | inr i ↦ from (waits k r) refl w (λ q u. waits_rises j k r a q (omega arith) v u)
]
  where
    from : (o : Option (List Part)) → waits k r ≡ o → onward o ≡ Some b → ((q : List Part) → waits k r ≡ Some q → Rises a q) → Rises a b
    from None u e ih = let n : ◌≡◌ {A = ℕ} 0 1 = cc in let w : ⊥ = omega arith in absurd w
    from (Some q) u e ih = then_rises a q b (ih q u) (next_rises q b e)

rises_ceilings : (r q : List Part) → Rises r q → map (λ p. p.ceiling) r ≡ map (λ p. p.ceiling) q
rises_ceilings [] [] h = refl
rises_ceilings [] (y ∷ q) h = absurd h
rises_ceilings (x ∷ r) [] h = absurd h
rises_ceilings (x ∷ r) (y ∷ q) h = ap₂ ◌∷◌ h.0.0 (rises_ceilings r q h.1)

-- a wait leaves the ceilings as they are
pub waits_ceilings : (n : ℕ) (r q : List Part) → waits n r ≡ Some q → map (λ p. p.ceiling) q ≡ map (λ p. p.ceiling) r
waits_ceilings n r q w = sym (rises_ceilings r q (waits_rises 0 n r r q (omega arith) refl w))

-- intervals are convex
low_between : (b : ℕ) (o : Bool) (p q : Part) → Rise p q → (exceeds b p || (not o && equals b p)) ≡ true → (exceeds b q || (not o && equals b q)) ≡ true
low_between b true p q h e = grind (arith, nat_tests)
low_between b false p q h e = grind (arith, nat_tests)

under_between : (b : ℕ) (o : Bool) (q s : Part) → Rise q s → (not (exceeds b s) && (not o || not (equals b s))) ≡ true
    → (not (exceeds b q) && (not o || not (equals b q))) ≡ true
under_between b true q s h e = grind (arith, nat_tests)
under_between b false q s h e = grind (arith, nat_tests)

high_between : (b : Option Bound) (q s : Part) → Rise q s → meets_high b s ≡ true → meets_high b q ≡ true
high_between None q s h e = refl
high_between (Some b) q s h e = under_between b.at b.open q s h e

meets_between : (b : Bounds) (p q s : Part) → Rise p q → Rise q s → meets b p ≡ true → meets b s ≡ true → meets b q ≡ true
meets_between b p q s h k e f =
    let u = and_parts (meets_low b.low p) (meets_high b.high p) e in
    let v = and_parts (meets_low b.low s) (meets_high b.high s) f in
    and_from (meets_low b.low q) (meets_high b.high q) (low_between b.low.at b.low.open p q h u.0) (high_between b.high q s k v.1)

holds_between : (bs : List Bounds) (a b c : List Part) → Rises a b → Rises b c → holds bs a ≡ true → holds bs c ≡ true → holds bs b ≡ true
holds_between [] a b c h k e f = refl
holds_between (i ∷ is) [] [] c h k e f = e
holds_between (i ∷ is) [] (y ∷ b) c h k e f = absurd h
holds_between (i ∷ is) (x ∷ a) [] c h k e f = absurd h
holds_between (i ∷ is) (x ∷ a) (y ∷ b) [] h k e f = absurd k
holds_between (i ∷ is) (x ∷ a) (y ∷ b) (z ∷ c) h k e f =
    let p = and_parts (meets i x) (holds is a) e in
    let q = and_parts (meets i z) (holds is c) f in
    and_from (meets i y) (holds is b) (meets_between i x y z h.0 k.0 p.0 q.0) (holds_between is a b c h.1 k.1 p.1 q.1)

-- so the invariant holds throughout a wait
pub keeps_between : (g : Game) (l : ℕ) (r q a : List Part) (j k : ℕ) → j ≤ k → waits j r ≡ Some q → waits k r ≡ Some a
    → keeps g l r ≡ true → keeps g l a ≡ true → keeps g l q ≡ true
keeps_between g l r q a j k n v w h i = at (slice_get g.locations l) h i
  where
    at : (o : Option Location) → invariant_of o r ≡ true → invariant_of o a ≡ true → invariant_of o q ≡ true
    at None h i = h
    at (Some x) h i = holds_between (zone x.invariant) r q a (waits_rises 0 j r r q (omega arith) refl v) (waits_rises j k r q a n v w) h i
