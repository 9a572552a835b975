-- Intervals on regions and on readings.
use Rattle.std.proofs.Common.{◌≡◌, ℕ, ◌+◌, ◌*◌, ◌<◌, ◌≤◌, Bool, true, false, not, ◌&&◌, ◌||◌, eqb, ltb, leb, ◌⊎◌, List, [], ◌∷◌, map, Some, None, Option, sym, refl, ap, ◌∙◌, ap₂, inl, inr, mul-le-mul_right, arith}
use mathlib.Core.List.{map-map}
use Rattle.std.proofs.lemmas.Bool.{and_parts, leb-true, cases_order}
use Rattle.std.proofs.lemmas.Bool.Decides.{nat_tests}
use Rattle.clocks.specs.Regions.{Clock, spot, seen, classed}
use Rattle.clocks.proofs.Resets.{guards_stand}
use Rattle.game.specs.declared.bounds.Bound.{Bound}
use Rattle.game.specs.declared.bounds.Bounds.{Bounds}
use Rattle.game.specs.Types.{Zone}
use Rattle.game.specs.Intervals.{reaches, inhabited, up_to, bounded, everywhere, fitting, meets_low, meets_high, meets, holds, inside_low, inside_high, inside, insides}
use Rattle.game.specs.Game.{Game, suits}
use Rattle.game.specs.Theorems.{Inhabited, bounded_by, Measured, Suited}

-- an interval that contains a reading, and a reading that it contains
low_in : (D n x : ℕ) (o : Bool) → (ltb (n * D) x || (not o && eqb x (n * D))) ≡ true → (n * D < x) ⊎ ((n * D ≡ x) × (o ≡ false))
low_in D n x true h = inl (grind (arith, nat_tests))
low_in D n x false h = elim (cases_order (n * D) x) [
  | inl e ↦ inr (e, refl)
  | inr o ↦ elim o [ inl l ↦ inl l | inr l ↦ let z : ⊥ = grind (arith, nat_tests) in absurd z ]
]

high_in : (D m x : ℕ) (o : Bool) → (ltb x (m * D) || (not o && eqb x (m * D))) ≡ true → (x < m * D) ⊎ ((x ≡ m * D) × (o ≡ false))
high_in D m x true h = inl (grind (arith, nat_tests))
high_in D m x false h = elim (cases_order x (m * D)) [
  | inl e ↦ inr (e, refl)
  | inr o ↦ elim o [ inl l ↦ inl l | inr l ↦ let z : ⊥ = grind (arith, nat_tests) in absurd z ]
]

inhabits : (D x : ℕ) (low : Bound) (high : Option Bound) → 0 < D → inside_low D low x ≡ true → inside_high D high x ≡ true → reaches low high ≡ true
inhabits D x low None z h k = refl
inhabits D x low (Some high) z h k =
    both (low_in D low.at x low.open h) (high_in D high.at x high.open k)
  where
    larger : low.at * D < high.at * D → reaches low (Some high) ≡ true
    larger l = elim (cases_order low.at high.at) [
      | inl e ↦ let i : low.at * D ≡ high.at * D = ap (λ n. n * D) e in let z : ⊥ = omega arith in absurd z
      | inr o ↦ elim o [
        | inl m ↦ grind (arith, nat_tests)
        | inr m ↦ let i : high.at * D ≤ low.at * D = mul-le-mul_right D (omega arith) in let z : ⊥ = omega arith in absurd z
      ]
    ]

    both : (low.at * D < x) ⊎ ((low.at * D ≡ x) × (low.open ≡ false)) → (x < high.at * D) ⊎ ((x ≡ high.at * D) × (high.open ≡ false)) → reaches low (Some high) ≡ true
    both (inl a) (inl b) = larger (omega arith)
    both (inl a) (inr b) = larger (omega arith)
    both (inr a) (inl b) = larger (omega arith)
    both (inr a) (inr b) = elim (cases_order low.at high.at) [
      | inl e ↦ rw (a.1, b.1) (grind (arith, nat_tests))
      | inr o ↦ elim o [
        | inl m ↦ grind (arith, nat_tests)
        | inr m ↦ let i : (high.at + 1) * D ≤ low.at * D = mul-le-mul_right D (omega arith) in let z : ⊥ = omega arith in absurd z
      ]
    ]

witness : (low : Bound) (high : Option Bound) → reaches low high ≡ true → (x : ℕ) × ((inside_low 2 low x && inside_high 2 high x) ≡ true)
witness low None h = (low.at * 2 + 1, at low.open)
  where
    at : (o : Bool) → ((ltb (low.at * 2) (low.at * 2 + 1) || (not o && eqb (low.at * 2 + 1) (low.at * 2))) && true) ≡ true
    at o = let l : ltb (low.at * 2) (low.at * 2 + 1) ≡ true = grind (arith, nat_tests) in rw l
witness low (Some high) h = elim (cases_order low.at high.at) [
  | inl e ↦ (low.at * 2, closed low.open high.open e h)
  | inr o ↦ (low.at * 2 + 1, open' low.open high.open o h)
]
  where
    closed : (a b : Bool) → low.at ≡ high.at → (ltb low.at high.at || (eqb low.at high.at && (not a && not b))) ≡ true
        → ((ltb (low.at * 2) (low.at * 2) || (not a && eqb (low.at * 2) (low.at * 2))) && (ltb (low.at * 2) (high.at * 2) || (not b && eqb (low.at * 2) (high.at * 2)))) ≡ true
    closed true b e h = let z : ⊥ = grind (arith, nat_tests) in absurd z
    closed false true e h = let z : ⊥ = grind (arith, nat_tests) in absurd z
    closed false false e h = grind (arith, nat_tests)

    open' : (a b : Bool) → (low.at < high.at) ⊎ (high.at < low.at) → (ltb low.at high.at || (eqb low.at high.at && (not a && not b))) ≡ true
        → ((ltb (low.at * 2) (low.at * 2 + 1) || (not a && eqb (low.at * 2 + 1) (low.at * 2))) && (ltb (low.at * 2 + 1) (high.at * 2) || (not b && eqb (low.at * 2 + 1) (high.at * 2)))) ≡ true
    open' a b (inl l) h =
        let i : ltb (low.at * 2) (low.at * 2 + 1) ≡ true = grind (arith, nat_tests) in
        let j : ltb (low.at * 2 + 1) (high.at * 2) ≡ true = grind (arith, nat_tests) in
        rw (i, j)
    open' a b (inr l) h = let z : ⊥ = grind (arith, nat_tests) in absurd z

pub inhabited_stand : Inhabited
inhabited_stand b = (
  witness b.low b.high,
  λ D x z h. let t = and_parts (inside_low D b.low x) (inside_high D b.high x) h in inhabits D x b.low b.high z t.0 t.1,
)

-- the ends on a region and on readings
over : (x n w b k : ℕ) → ltb x n ≡ ltb w k → eqb x n ≡ (eqb w k && eqb b 0) → (ltb k w || (eqb w k && ltb 0 b)) ≡ ltb n x
over x n w b k e f = grind (arith, nat_tests)

beneath : (o : Bool) (x n w b k : ℕ) → ltb x n ≡ ltb w k → eqb x n ≡ (eqb w k && eqb b 0)
    → (not (ltb k w || (eqb w k && ltb 0 b)) && (not o || not (eqb w k && eqb b 0))) ≡ (ltb x n || (not o && eqb x n))
beneath true x n w b k e f = grind (arith, nat_tests)
beneath false x n w b k e f = grind (arith, nat_tests)

module _ (D : ℕ) (f : ℕ → Bool) (z : 0 < D) where
  low_same : (low : Bound) (x : Clock) → low.at ≤ x.ceiling → meets_low low (classed f (spot D x)) ≡ inside_low D low x.reading
  low_same low x l =
      let t = guards_stand D low.at f x z l in
      ap₂ ◌||◌ (over x.reading (low.at * D) (classed f (spot D x)).whole (classed f (spot D x)).rest low.at t.0 t.1) (ap (λ b. not low.open && b) (sym t.1))

  high_same : (high : Option Bound) (x : Clock) → up_to x.ceiling high ≡ true → meets_high high (classed f (spot D x)) ≡ inside_high D high x.reading
  high_same None x l = refl
  high_same (Some high) x l =
      let t = guards_stand D high.at f x z (leb-true high.at x.ceiling l) in
      beneath high.open x.reading (high.at * D) (classed f (spot D x)).whole (classed f (spot D x)).rest high.at t.0 t.1

  meets_same : (b : Bounds) (x : Clock) → bounded x.ceiling b ≡ true → meets b (classed f (spot D x)) ≡ inside D b x.reading
  meets_same b x h =
      let t = and_parts (leb b.low.at x.ceiling) (up_to x.ceiling b.high) h in
      ap₂ ◌&&◌ (low_same b.low x (leb-true b.low.at x.ceiling t.0)) (high_same b.high x t.1)

  holds_same : (bs : List Bounds) (xs : List Clock) → bounded_by bs (map (λ x. x.ceiling) xs) ≡ true → holds bs (map (λ x. classed f (spot D x)) xs) ≡ insides D bs xs
  holds_same [] xs h = refl
  holds_same (b ∷ bs) [] h = refl
  holds_same (b ∷ bs) (x ∷ xs) h =
      let t = and_parts (bounded x.ceiling b) (bounded_by bs (map (λ x. x.ceiling) xs)) h in
      ap₂ ◌&&◌ (meets_same b x t.0) (holds_same bs xs t.1)

pub measured : Measured
measured D bs xs z h = ap (holds bs) (map-map (classed (seen (map (spot D) xs))) (spot D) xs) ∙ holds_same D (seen (map (spot D) xs)) z bs xs h

pub suits_parts : (g : Game) (z : Zone) → suits g.ceilings z ≡ true
    → (fitting g.ceilings.x z.x ≡ true) × (fitting g.ceilings.y z.y ≡ true) × (fitting g.ceilings.z z.z ≡ true)
suits_parts g z h =
    let a = and_parts (fitting g.ceilings.x z.x) (fitting g.ceilings.y z.y && fitting g.ceilings.z z.z) h in
    let b = and_parts (fitting g.ceilings.y z.y) (fitting g.ceilings.z z.z) a.1 in
    (a.0, b.0, b.1)

pub fitting_parts : (c : ℕ) (b : Bounds) → fitting c b ≡ true → (inhabited b ≡ true) × (bounded c b ≡ true) × ((ltb 0 c || everywhere b) ≡ true)
fitting_parts c b h =
    let t = and_parts (inhabited b) (bounded c b && (ltb 0 c || everywhere b)) h in
    let u = and_parts (bounded c b) (ltb 0 c || everywhere b) t.1 in
    (t.0, u.0, u.1)

pub suited : Suited
suited g z h =
    let t = suits_parts g z h in
    let x = (fitting_parts g.ceilings.x z.x t.0).1 in
    let y = (fitting_parts g.ceilings.y z.y t.1).1 in
    let w = (fitting_parts g.ceilings.z z.z t.2).1 in
    rw (x, y, w)
