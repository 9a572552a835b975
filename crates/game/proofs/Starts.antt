-- When the start is an own position.
use Rattle.std.proofs.Common.{◌≡◌, ℕ, Bool, true, false, cond, not, ◌&&◌, ◌||◌, eqb, ltb, leb, List, [], ◌∷◌, Some, None, Option, sym, refl, ap, ◌∙◌, ap₂, inl, inr, arith}
use mathlib.Core.Bool.{and-true}
use Rattle.std.specs.List.{slice_get, list_all}
use Rattle.std.proofs.lemmas.Bool.{and_parts, cases_Bool, cases_eq}
use Rattle.std.proofs.lemmas.Bool.Decides.{nat_tests}
use Rattle.clocks.specs.Regions.{part}
use Rattle.regions.specs.Code.{within, is_own}
use Rattle.game.specs.declared.bounds.Bound.{Bound}
use Rattle.game.specs.declared.bounds.Bounds.{Bounds}
use Rattle.game.specs.declared.parts.Location.{Location}
use Rattle.game.specs.Intervals.{reaches, unending, everywhere, fitting, meets_low, meets_high, meets}
use Rattle.game.specs.Game.{Game, invariant_of, fresh, owns, start, sound_location, suits, sound}
use Rattle.game.specs.Start.{well_made, from_zero, starts_at_zero}
use Rattle.game.specs.Theorems.{Starts}
use Rattle.game.proofs.Sounds.{Made, made, made_back, sound_start}
use Rattle.game.proofs.Readings.{suits_parts, fitting_parts}

fresh_within : (c : ℕ) → within (fresh c) ≡ true
fresh_within c = grind (arith, nat_tests)

-- the start's region is one of the game's clocks
start_own : (g : Game) → is_own (start g).region ≡ true
start_own g = rw (fresh_within g.ceilings.x, fresh_within g.ceilings.y, fresh_within g.ceilings.z)

-- an interval that contains a reading holds of a clock at zero just when it begins with a closed 0
meets_zero : (c : ℕ) (low : Bound) (high : Option Bound) → reaches low high ≡ true
    → (meets_low low (part c 0 0) && meets_high high (part c 0 0)) ≡ (eqb low.at 0 && not low.open)
meets_zero c low None h = at low.at low.open
  where
    at : (n : ℕ) (o : Bool) → ((ltb n 0 || (eqb 0 n && false) || (not o && (eqb 0 n && true))) && true) ≡ (eqb n 0 && not o)
    at n true = grind (arith, nat_tests)
    at n false = grind (arith, nat_tests)
meets_zero c low (Some high) h = at low.at high.at low.open high.open h
  where
    at : (n m : ℕ) (o p : Bool) → (ltb n m || (eqb n m && (not o && not p))) ≡ true
        → ((ltb n 0 || (eqb 0 n && false) || (not o && (eqb 0 n && true))) && (not (ltb m 0 || (eqb 0 m && false)) && (not p || not (eqb 0 m && true)))) ≡ (eqb n 0 && not o)
    at n m true p h = grind (arith, nat_tests)
    at n m false true h = grind (arith, nat_tests)
    at n m false false h = grind (arith, nat_tests)

-- and `[0,-)` holds of a clock that is not there
meets_absent : (c : ℕ) (low : Bound) (high : Option Bound) → (eqb low.at 0 && (not low.open && unending high)) ≡ true
    → (meets_low low (part c 1 0) && meets_high high (part c 1 0)) ≡ (eqb low.at 0 && not low.open)
meets_absent c low None h = at low.at low.open h
  where
    at : (n : ℕ) (o : Bool) → (eqb n 0 && (not o && true)) ≡ true → ((ltb n 1 || (eqb 1 n && false) || (not o && (eqb 1 n && true))) && true) ≡ (eqb n 0 && not o)
    at n true h = grind (arith, nat_tests)
    at n false h = grind (arith, nat_tests)
meets_absent c low (Some high) h = let z : ⊥ = grind (arith, nat_tests) in absurd z

meets_fresh : (c : ℕ) (b : Bounds) → fitting c b ≡ true → meets b (fresh c) ≡ from_zero b
meets_fresh c b h =
    let t = fitting_parts c b h in
    elim (cases_eq c 0) [
      | inl e ↦
          let i : eqb c 0 ≡ true = grind (arith, nat_tests) in
          let j : ltb 0 c ≡ false = grind (arith, nat_tests) in
          ap (λ w. meets b (part c (cond w 1 0) 0)) i ∙ meets_absent c b.low b.high (sym (ap (λ w. w || everywhere b) j) ∙ t.2)
      | inr e ↦
          let i : eqb c 0 ≡ false = grind (arith, nat_tests) in
          ap (λ w. meets b (part c (cond w 1 0) 0)) i ∙ meets_zero c b.low b.high t.0
    ]

keeps_start : (g : Game) (ls : List Location) → list_all (sound_location g.ceilings) ls ≡ true → invariant_of (slice_get ls 0) (start g).region ≡ starts_at_zero ls
keeps_start g [] h = refl
keeps_start g (l ∷ ls) h =
    let t = and_parts (sound_location g.ceilings l) (list_all (sound_location g.ceilings) ls) h in
    let u = suits_parts g l.invariant (and_parts (leb l.priority 5) (suits g.ceilings l.invariant) t.0).1 in
    ap₂ ◌&&◌ (meets_fresh g.ceilings.x l.invariant.x u.0)
    (ap₂ ◌&&◌ (meets_fresh g.ceilings.y l.invariant.y u.1)
    (and-true (meets l.invariant.z (fresh g.ceilings.z)) ∙ meets_fresh g.ceilings.z l.invariant.z u.2))

pub owns_start : (g : Game) → well_made g ≡ true → owns g (start g) ≡ starts_at_zero g.locations
owns_start g h = rw (start_own g) (keeps_start g g.locations (made g h).locations_sound)

pub starts : Starts
starts g = sound_start g ∙ elim (cases_Bool (well_made g)) [
  | inl t ↦ ap (λ b. well_made g && b) (owns_start g t)
  | inr t ↦ rw t
]

-- for a game that is put together from its parts
pub sound_at_zero : (g : Game) → Made g → sound g ≡ starts_at_zero g.locations
sound_at_zero g m = starts g ∙ ap (λ b. b && starts_at_zero g.locations) (made_back g m)
