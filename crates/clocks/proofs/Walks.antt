-- Grain by grain through the regions.
use Rattle.std.proofs.Common.{◌≡◌, ℕ, zero, suc, pred, ◌+◌, ◌*◌, ◌/◌, ◌%◌, ◌<◌, ◌≤◌, Bool, true, false, ◌&&◌, ltb, leb, List, map, Some, None, Option, sym, refl, ap, ◌∙◌, inl, inr, add-zero, add-one, arith}
use mathlib.Core.List.{map-map}
use native.Mathlib.Nat.{div-le_of_le-mul}
use Rattle.std.specs.List.{AllByRecursion}
use Rattle.std.proofs.lemmas.Bool.Decides.{nat_tests}
use Rattle.std.proofs.ByRecursion.{All-map, All-weaker}
use Rattle.std.proofs.lemmas.Bool.{cases_lt, cases_eq, cases_Bool, le-ltb, le-leb}
use Rattle.clocks.specs.Regions.{Clock, Part, clock, spot, some, seen, rank, classed, ranked, region_of, resting, top, next, onward, waits, later, finer, turns, passed}
use Rattle.clocks.proofs.Lists.{map_ext, map_keep, some_ext, some_map, some_more, none_each, each_none, all_both, all_any, upto_mono, top_le}
use Rattle.clocks.proofs.Ticks.{Fine, Low, High, tick, turning, Step, low_step, high_step, resting_classed}
use Rattle.clocks.proofs.Spots.{stands, spot_at, spot_past, spot_fine, spot_tick}

spot_low : (D : ℕ) (x : Clock) → 0 < D → x.reading % 2 ≡ 0 → Low (2 * D) (spot (2 * D) x)
spot_low D x z e = elim (stands (2 * D) x.ceiling x.reading (omega arith)) [
  | inl l ↦ rw (spot_past (2 * D) x.ceiling x.reading l) (omega arith)
  | inr t ↦ rw (t.2, spot_at (2 * D) x.ceiling t.0 t.1 t.3) (omega arith)
]

spot_high : (D : ℕ) (x : Clock) → 0 < D → x.reading % 2 ≡ 1 → High (2 * D) (spot (2 * D) x)
spot_high D x z e = elim (stands (2 * D) x.ceiling x.reading (omega arith)) [
  | inl l ↦ rw (spot_past (2 * D) x.ceiling x.reading l) (omega arith)
  | inr t ↦ rw (t.2, spot_at (2 * D) x.ceiling t.0 t.1 t.3) (omega arith)
]

pub spot_turns : (E : ℕ) (x : Clock) → turns E x ≡ turning E (spot E x)
spot_turns E x = elim (cases_lt (x.ceiling * E) x.reading) [
  | inl l ↦ rw (spot_past E x.ceiling x.reading l) (grind (arith, nat_tests))
  | inr l ↦
      let a : ltb (x.ceiling * E) x.reading ≡ false = le-ltb (x.ceiling * E) x.reading l in
      let b : leb x.reading (x.ceiling * E) ≡ true = le-leb x.reading (x.ceiling * E) l in
      let c : leb (x.reading / E) x.ceiling ≡ true = le-leb (x.reading / E) x.ceiling (div-le_of_le-mul E (omega arith)) in
      rw (a, b, c)
]

pub later_tick : (E : ℕ) (xs : List Clock) → 0 < E → map (spot E) (later 1 xs) ≡ map (tick E) (map (spot E) xs)
later_tick E xs z =
    map-map (spot E) (λ x. clock x.ceiling (x.reading + 1)) xs
    ∙ map_ext (λ x. spot E (clock x.ceiling (x.reading + 1))) (λ x. tick E (spot E x)) (λ x. spot_tick E x z) xs
    ∙ sym (map-map (tick E) (spot E) xs)

-- C. one grain
pub grain : (D b : ℕ) (xs : List Clock) → 0 < D → AllByRecursion (λ x. x.reading % 2 ≡ b) xs
    → Step (some (turns (2 * D)) xs) (region_of (2 * D) xs) (region_of (2 * D) (later 1 xs))
grain D b xs z h =
    rw (later_tick (2 * D) xs (omega arith), some_ext (turns (2 * D)) (λ x. turning (2 * D) (spot (2 * D) x)) (spot_turns (2 * D)) xs, ← some_map (turning (2 * D)) (spot (2 * D)) xs)
    (elim (cases_eq b 0) [
      | inl e ↦ low_step (2 * D) (map (spot (2 * D)) xs)
          (All-map (Low (2 * D)) (spot (2 * D)) xs (All-weaker (λ x. x.reading % 2 ≡ b) (λ x. Low (2 * D) (spot (2 * D) x)) (λ x k. spot_low D x z (k ∙ e)) xs h))
      | inr e ↦ high_step (2 * D) (map (spot (2 * D)) xs) (omega arith)
          (All-map (High (2 * D)) (spot (2 * D)) xs (All-weaker (λ x. x.reading % 2 ≡ b) (λ x. High (2 * D) (spot (2 * D) x)) (λ x k. spot_high D x z (omega arith)) xs h))
    ])

later_zero : (xs : List Clock) → later 0 xs ≡ xs
later_zero xs = map_keep (λ _. Unit {0}) (λ x. clock x.ceiling (x.reading + 0)) (λ x _. ap (clock x.ceiling) (add-zero x.reading)) xs (all_any (λ _. Unit {0}) (λ _. tt) xs)

later_suc : (m : ℕ) (xs : List Clock) → later 1 (later m xs) ≡ later (suc m) xs
later_suc m xs = map-map (λ x. clock x.ceiling (x.reading + 1)) (λ x. clock x.ceiling (x.reading + m)) xs
    ∙ map_ext (λ x. clock x.ceiling (x.reading + m + 1)) (λ x. clock x.ceiling (x.reading + suc m)) (λ x. ap (clock x.ceiling) (omega arith)) xs

pub finer_even : (xs : List Clock) → AllByRecursion (λ x. x.reading % 2 ≡ 0) (finer 2 xs)
finer_even xs = All-map (λ x. x.reading % 2 ≡ 0) (λ x. clock x.ceiling (2 * x.reading)) xs (all_any (λ x. (2 * x.reading) % 2 ≡ 0) (λ x. omega arith) xs)

abbrev alive : ℕ → ℕ → Part → Bool
alive E k p = leb p.whole p.ceiling && leb E (p.rest + suc k)

alive_tick : (E k : ℕ) (p : Part) → Fine E p × (turning E p ≡ false) → alive E (suc k) p ≡ true → alive E k (tick E p) ≡ true
alive_tick E k p h e = grind (arith, nat_tests)

alive_turns : (E : ℕ) (p : Part) → Fine E p → alive E 0 p ≡ true → turning E p ≡ true
alive_turns E p h e = grind (arith, nat_tests)

-- with all clocks past there is no next region
all_past : (E : ℕ) (s : List Part) → AllByRecursion (Fine E) s → some (λ p. leb p.whole p.ceiling) s ≡ false → next (ranked s) ≡ None
all_past E s h k =
    let both = all_both (Fine E) (λ p. leb p.whole p.ceiling ≡ false) s h (none_each (λ p. leb p.whole p.ceiling) s k) in
    let a : some resting (ranked s) ≡ false = resting_classed (seen s) s ∙ each_none (λ p. Fine E p × (leb p.whole p.ceiling ≡ false)) resting (λ p j. grind (arith, nat_tests)) s both in
    let t : top (ranked s) ≤ 0 = top_le 0 (ranked s) (All-map (λ p. p.rest ≤ 0) (classed (seen s)) s
    (All-weaker (λ p. Fine E p × (leb p.whole p.ceiling ≡ false)) (λ p. rank (seen s) p.rest ≤ 0) (λ p j. zero_rank (seen s) p.rest (grind (arith, nat_tests))) s both)) in
    let b : ltb 0 (top (ranked s)) ≡ false = le-ltb 0 (top (ranked s)) t in
    rw (a, b)
  where
    zero_rank : (f : ℕ → Bool) (n : ℕ) → n ≡ 0 → rank f n ≤ 0
    zero_rank f n e = rw e (omega arith)

module _ (D b : ℕ) (xs : List Clock) (z : 0 < D) (h : AllByRecursion (λ x. x.reading % 2 ≡ b) xs) where
  parity : (m : ℕ) → AllByRecursion (λ x. x.reading % 2 ≡ (b + m) % 2) (later m xs)
  parity m = All-map (λ x. x.reading % 2 ≡ (b + m) % 2) (λ x. clock x.ceiling (x.reading + m)) xs
      (All-weaker (λ x. x.reading % 2 ≡ b) (λ x. (x.reading + m) % 2 ≡ (b + m) % 2) (λ x k. omega arith) xs h)

  step : (m : ℕ) → Step (some (turns (2 * D)) (later m xs)) (region_of (2 * D) (later m xs)) (region_of (2 * D) (later (suc m) xs))
  step m = rw later_suc at (grain D ((b + m) % 2) (later m xs) z (parity m))

  pub walk : (m : ℕ) → waits (passed (2 * D) xs m) (region_of (2 * D) xs) ≡ Some (region_of (2 * D) (later m xs))
  walk zero = ap (λ ys. Some (region_of (2 * D) ys)) (sym (later_zero xs))
  walk (suc m) = elim (cases_Bool (some (turns (2 * D)) (later m xs))) [
    | inl t ↦ rw (t, add-one, walk m) ((step m).0 t)
    | inr t ↦ rw (t, add-zero) (walk m ∙ ap Some (sym ((step m).1 t)))
  ]

  pub passed_mono : (m n : ℕ) → m ≤ n → passed (2 * D) xs m ≤ passed (2 * D) xs n
  passed_mono m n l = upto_mono (λ v. some (turns (2 * D)) (later (pred v) xs)) m n l

  fine : (m : ℕ) → AllByRecursion (Fine (2 * D)) (map (spot (2 * D)) (later m xs))
  fine m = All-map (Fine (2 * D)) (spot (2 * D)) (later m xs) (all_any (λ x. Fine (2 * D) (spot (2 * D) x)) (λ x. spot_fine (2 * D) x (omega arith)) (later m xs))

  turning_spots : (m : ℕ) → some (turns (2 * D)) (later m xs) ≡ some (turning (2 * D)) (map (spot (2 * D)) (later m xs))
  turning_spots m = some_ext (turns (2 * D)) (λ x. turning (2 * D) (spot (2 * D) x)) (spot_turns (2 * D)) (later m xs) ∙ sym (some_map (turning (2 * D)) (spot (2 * D)) (later m xs))

  -- while a clock is not past, a next region is entered
  enters : (k m : ℕ) → some (alive (2 * D) k) (map (spot (2 * D)) (later m xs)) ≡ true → (i : ℕ) × (passed (2 * D) xs i ≡ suc (passed (2 * D) xs m))
  enters zero m a =
      let t : some (turns (2 * D)) (later m xs) ≡ true =
      turning_spots m ∙ some_more (Fine (2 * D)) (alive (2 * D) 0) (turning (2 * D)) (alive_turns (2 * D)) (map (spot (2 * D)) (later m xs)) (fine m) a in
      (suc m, rw (t, add-one))
  enters (suc k) m a = elim (cases_Bool (some (turns (2 * D)) (later m xs))) [
    | inl t ↦ (suc m, rw (t, add-one))
    | inr t ↦
        let E : ℕ = 2 * D in
        let s : List Part = map (spot E) (later m xs) in
        let e : map (spot E) (later (suc m) xs) ≡ map (tick E) s = ap (map (spot E)) (sym (later_suc m xs)) ∙ later_tick E (later m xs) (omega arith) in
        let q : some (alive E k) (map (tick E) s) ≡ true =
        some_map (alive E k) (tick E) s
        ∙ some_more (λ p. Fine E p × (turning E p ≡ false)) (alive E (suc k)) (λ p. alive E k (tick E p)) (alive_tick E k) s
        (all_both (Fine E) (λ p. turning E p ≡ false) s (fine m) (none_each (turning E) s (sym (turning_spots m) ∙ t))) a in
        let i = enters k (suc m) (ap (some (alive E k)) e ∙ q) in
        (i.0, i.1 ∙ ap suc (rw (t, add-zero)))
  ]

  pub reach : (n : ℕ) (r : List Part) → waits n (region_of (2 * D) xs) ≡ Some r → (m : ℕ) × (passed (2 * D) xs m ≡ n)
  reach zero r e = (0, refl)
  reach (suc n) r e = from (waits n (region_of (2 * D) xs)) refl e (λ o q. reach n o q)
    where
      from : (o : Option (List Part)) → waits n (region_of (2 * D) xs) ≡ o → onward o ≡ Some r
          → ((q : List Part) → waits n (region_of (2 * D) xs) ≡ Some q → (m : ℕ) × (passed (2 * D) xs m ≡ n)) → (m : ℕ) × (passed (2 * D) xs m ≡ suc n)
      from None w e ih = let n : ◌≡◌ {A = ℕ} 0 1 = cc in let w : ⊥ = omega arith in absurd w
      from (Some q) w e ih =
          let i = ih q w in
          let E : ℕ = 2 * D in
          let s : List Part = map (spot E) (later i.0 xs) in
          let here : next (ranked s) ≡ Some r = ap onward (sym (walk i.0) ∙ ap (λ k. waits k (region_of E xs)) i.1 ∙ w) ∙ e in
          elim (cases_Bool (some (λ p. leb p.whole p.ceiling) s)) [
            | inl t ↦
                let k = enters E i.0 (some_more (Fine E) (λ p. leb p.whole p.ceiling) (alive E E) (λ p f j. grind (arith, nat_tests)) s (fine i.0) t) in
                (k.0, k.1 ∙ ap suc i.1)
            | inr t ↦ let none = all_past E s (fine i.0) t in let n : ◌≡◌ {A = ℕ} 0 1 = cc in let w : ⊥ = omega arith in absurd w
          ]
