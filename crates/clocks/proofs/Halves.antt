-- A grain more, where no clock lacks one to a unit, and where none is at a unit.
use Rattle.std.proofs.Common.{◌≡◌, ℕ, ◌+◌, ◌-◌, ◌*◌, ◌%◌, ◌<◌, ◌≤◌, Bool, false, ◌&&◌, eqb, leb, List, map, sym, ap, ◌∙◌, inl, inr, arith}
use lib.Arith.{digits_mod}
use Rattle.std.proofs.lemmas.Bool.Decides.{nat_tests}
use Rattle.std.proofs.ByRecursion.{All-map, All-weaker}
use Rattle.clocks.specs.Regions.{Clock, spot, some, region_of, later, turns, has}
use Rattle.clocks.specs.Theorems.{Leaving, Arriving}
use Rattle.clocks.proofs.Lists.{some_same, some_map, some_ext, none_each}
use Rattle.clocks.proofs.Ticks.{Low, High, turning, Step, low_step, high_step}
use Rattle.clocks.proofs.Spots.{stands, not_past, spot_at, spot_past}
use Rattle.clocks.proofs.Walks.{spot_turns, later_tick}

abbrev inside : ℕ → ℕ → Clock → Bool
inside E v x = leb x.reading (x.ceiling * E) && eqb (x.reading % E) v

spot_low : (E : ℕ) (x : Clock) → 1 < E → inside E (E - 1) x ≡ false → Low E (spot E x)
spot_low E x z e = elim (stands E x.ceiling x.reading (omega arith)) [
  | inl l ↦ rw (spot_past E x.ceiling x.reading l) (omega arith)
  | inr t ↦
      let l : t.0 * E + t.1 ≤ x.ceiling * E = not_past E x.ceiling t.0 t.1 t.3 in
      let m : x.reading % E ≡ t.1 = ap (λ n. n % E) t.2 ∙ digits_mod t.0 t.3.0 in
      let r : t.1 + 1 < E = grind (arith, nat_tests) in
      rw (t.2, spot_at E x.ceiling t.0 t.1 t.3) (omega arith)
]

spot_high : (E : ℕ) (x : Clock) → 1 < E → inside E 0 x ≡ false → High E (spot E x)
spot_high E x z e = elim (stands E x.ceiling x.reading (omega arith)) [
  | inl l ↦ rw (spot_past E x.ceiling x.reading l) (omega arith)
  | inr t ↦
      let l : t.0 * E + t.1 ≤ x.ceiling * E = not_past E x.ceiling t.0 t.1 t.3 in
      let m : x.reading % E ≡ t.1 = ap (λ n. n % E) t.2 ∙ digits_mod t.0 t.3.0 in
      let r : 0 < t.1 = grind (arith, nat_tests) in
      rw (t.2, spot_at E x.ceiling t.0 t.1 t.3) (omega arith)
]

module _ (E : ℕ) (xs : List Clock) (z : 1 < E) where
  turn : (v w : ℕ) → ((x : Clock) → inside E v x ≡ false → turns E x ≡ inside E w x) → has E xs v ≡ false → some (turning E) (map (spot E) xs) ≡ has E xs w
  turn v w e h = some_map (turning E) (spot E) xs ∙ sym (some_ext (turns E) (λ x. turning E (spot E x)) (spot_turns E) xs)
      ∙ some_same (λ x. inside E v x ≡ false) (turns E) (inside E w) e xs (none_each (inside E v) xs h)

  pub leaving : has E xs (E - 1) ≡ false → Step (has E xs 0) (region_of E xs) (region_of E (later 1 xs))
  leaving h = rw (later_tick E xs (omega arith), ← turn (E - 1) 0 (λ x k. grind (arith, nat_tests)) h)
      (low_step E (map (spot E) xs) (All-map (Low E) (spot E) xs (All-weaker (λ x. inside E (E - 1) x ≡ false) (λ x. Low E (spot E x)) (λ x k. spot_low E x z k) xs (none_each (inside E (E - 1)) xs h))))

  pub arriving : has E xs 0 ≡ false → Step (has E xs (E - 1)) (region_of E xs) (region_of E (later 1 xs))
  arriving h = rw (later_tick E xs (omega arith), ← turn 0 (E - 1) (λ x k. grind (arith, nat_tests)) h)
      (high_step E (map (spot E) xs) z (All-map (High E) (spot E) xs (All-weaker (λ x. inside E 0 x ≡ false) (λ x. High E (spot E x)) (λ x k. spot_high E x z k) xs (none_each (inside E 0) xs h))))

pub leaving_stand : Leaving
leaving_stand = leaving

pub arriving_stand : Arriving
arriving_stand = arriving
