-- Where a clock stands.
use Rattle.std.proofs.Common.{◌≡◌, ℕ, zero, suc, ◌+◌, ◌*◌, ◌/◌, ◌%◌, ◌<◌, ◌≤◌, min, Bool, true, false, eqb, ltb, ◌⊎◌, List, map, sym, ap, ◌∙◌, inl, inr, add-suc, mul-le-mul_right, mod-lt, mul-le-mul_left, mul-zero, div-add-mod', le_of_mul-le-mul_right, arith}
use mathlib.Core.List.{map-map}
use native.Mathlib.Nat.{mul-lt-mul_of_pos_left, eq_of_mul-eq-mul_left}
use lib.Arith.{digits_div, digits_mod}
use Rattle.std.proofs.lemmas.Bool.Decides.{nat_tests}
use Rattle.std.proofs.lemmas.Bool.{cases_lt, cases_eq, le-ltb, lt-ltb, eq-eqb, ne_eqb}
use Rattle.clocks.specs.Regions.{Clock, Part, clock, part, spot, seen, upto, rank, classed, ranked, region_of, finer}
use Rattle.clocks.proofs.Lists.{some_ext, some_map, some_none, map_ext}
use Rattle.clocks.proofs.Ticks.{Fine, tick}

-- a clock of ceiling c that stands at q units and r grains
abbrev pub Stands : ℕ → ℕ → ℕ → ℕ → Type 0
Stands E c q r = (r < E) × (q ≤ c) × (c ≤ q → r ≡ 0)

pub not_past : (E c q r : ℕ) → Stands E c q r → q * E + r ≤ c * E
not_past E c q r h = elim (cases_lt q c) [ inl l ↦ omega (arith, mul-le-mul_right E l) | inr l ↦ omega (arith, mul-le-mul_right E h.1) ]

pub spot_at : (E c q r : ℕ) → Stands E c q r → spot E (clock c (q * E + r)) ≡ part c q r
spot_at E c q r h =
    let a : ltb (c * E) (q * E + r) ≡ false = le-ltb (c * E) (q * E + r) (not_past E c q r h) in
    let d : (q * E + r) / E ≡ q = digits_div q h.0 in
    let m : (q * E + r) % E ≡ r = digits_mod q h.0 in
    rw (a, d, m)

pub spot_past : (E c x : ℕ) → c * E < x → spot E (clock c x) ≡ part c (c + 1) 0
spot_past E c x h = let a : ltb (c * E) x ≡ true = lt-ltb (c * E) x h in rw a

pub stands : (E c x : ℕ) → 0 < E → (c * E < x) ⊎ ((q : ℕ) × (r : ℕ) × (x ≡ q * E + r) × Stands E c q r)
stands E c x z = elim (cases_lt (c * E) x) [
  | inl l ↦ inl l
  | inr l ↦
      let e = div-add-mod' x E in
      let m : x % E < E = mod-lt x z in
      let q : x / E ≤ c = le_of_mul-le-mul_right {k = E} (omega arith) z in
      inr (x / E, x % E, sym e, (m, q, λ j. omega (arith, mul-le-mul_right E j)))
]

pub spot_fine : (E : ℕ) (x : Clock) → 0 < E → Fine E (spot E x)
spot_fine E x z = elim (stands E x.ceiling x.reading z) [
  | inl l ↦ rw (spot_past E x.ceiling x.reading l) (omega arith)
  | inr t ↦ let e : spot E x ≡ part x.ceiling t.0 t.1 = rw t.2 (spot_at E x.ceiling t.0 t.1 t.3) in rw e (omega arith)
]

tick_at : (E c q r : ℕ) → Stands E c q r → spot E (clock c (q * E + r + 1)) ≡ tick E (part c q r)
tick_at E c q r h = elim (cases_lt q c) [
  | inl l ↦ elim (cases_lt (suc r) E) [
    | inl k ↦
        let e : q * E + r + 1 ≡ q * E + suc r = omega arith in
        let t : tick E (part c q r) ≡ part c q (suc r) = grind (arith, nat_tests) in
        rw e (spot_at E c q (suc r) (k, omega arith, omega arith) ∙ sym t)
    | inr k ↦
        let e : q * E + r + 1 ≡ (q + 1) * E + 0 = omega arith in
        let t : tick E (part c q r) ≡ part c (q + 1) 0 = grind (arith, nat_tests) in
        rw e (spot_at E c (q + 1) 0 (omega arith, omega arith, omega arith) ∙ sym t)
  ]
  | inr l ↦
      let t : tick E (part c q r) ≡ part c (c + 1) 0 = grind (arith, nat_tests) in
      spot_past E c (q * E + r + 1) (omega (arith, mul-le-mul_right E l)) ∙ sym t
]

pub spot_tick : (E : ℕ) (x : Clock) → 0 < E → spot E (clock x.ceiling (x.reading + 1)) ≡ tick E (spot E x)
spot_tick E x z = elim (stands E x.ceiling x.reading z) [
  | inl l ↦ rw (spot_past E x.ceiling x.reading l, spot_past E x.ceiling (x.reading + 1) (omega arith)) (grind (arith, nat_tests))
  | inr t ↦ let e : spot E x ≡ part x.ceiling t.0 t.1 = rw t.2 (spot_at E x.ceiling t.0 t.1 t.3) in
      ap (λ n. spot E (clock x.ceiling (n + 1))) t.2 ∙ tick_at E x.ceiling t.0 t.1 t.3 ∙ ap (tick E) (sym e)
]

-- the same clock at a finer scale
abbrev pub times : ℕ → Part → Part
times k p = part p.ceiling p.whole (k * p.rest)

pub spot_finer : (k D : ℕ) (x : Clock) → 0 < k → 0 < D → spot (k * D) (clock x.ceiling (k * x.reading)) ≡ times k (spot D x)
spot_finer k D x j z = elim (stands D x.ceiling x.reading z) [
  | inl l ↦
      let m = mul-lt-mul_of_pos_left l j in
      spot_past (k * D) x.ceiling (k * x.reading) (omega arith) ∙ ap (part x.ceiling (x.ceiling + 1)) (sym (mul-zero k))
      ∙ ap (times k) (sym (spot_past D x.ceiling x.reading l))
  | inr t ↦
      let s : Stands (k * D) x.ceiling t.0 (k * t.1) =
      (mul-lt-mul_of_pos_left t.3.0 j, t.3.1, λ i. ap (λ n. k * n) (t.3.2 i) ∙ mul-zero k) in
      let e : k * x.reading ≡ t.0 * (k * D) + k * t.1 = ap (λ n. k * n) t.2 ∙ omega arith in
      ap (λ n. spot (k * D) (clock x.ceiling n)) e ∙ spot_at (k * D) x.ceiling t.0 (k * t.1) s
      ∙ ap (times k) (sym (spot_at D x.ceiling t.0 t.1 t.3) ∙ ap (λ n. spot D (clock x.ceiling n)) (sym t.2))
]

-- a clock that is held one unit past its ceiling
pub spot_held : (D : ℕ) (x : Clock) → 0 < D → spot D (clock x.ceiling (min x.reading ((x.ceiling + 1) * D))) ≡ spot D x
spot_held D x z = elim (cases_lt (x.ceiling * D) x.reading) [
  | inl l ↦ spot_past D x.ceiling (min x.reading ((x.ceiling + 1) * D)) (omega arith) ∙ sym (spot_past D x.ceiling x.reading l)
  | inr l ↦ let e : min x.reading ((x.ceiling + 1) * D) ≡ x.reading = omega arith in ap (λ n. spot D (clock x.ceiling n)) e
]

-- counting at a finer scale
module _ (j : ℕ) (f g : ℕ → Bool) (on : (v : ℕ) → g (suc j * v) ≡ f v) (off : (v i : ℕ) → 0 < i → i < suc j → g (suc j * v + i) ≡ false) where
  block : (v i : ℕ) → i < suc j → upto g (suc j * v + i) ≡ upto g (suc j * v)
  block v zero l = ap (upto g) (omega arith)
  block v (suc i) l =
      let e : suc j * v + suc i ≡ suc (suc j * v + i) = add-suc (suc j * v) i in
      let o : g (suc (suc j * v + i)) ≡ false = ap g (sym e) ∙ off v (suc i) (omega arith) l in
      let a = block v i (omega arith) in
      rw (e, o) (omega arith)

  upto_times : (n : ℕ) → upto g (suc j * n) ≡ upto f n
  upto_times zero = ap (upto g) (mul-zero (suc j))
  upto_times (suc n) =
      let e : suc j * suc n ≡ suc (suc j * n + j) = omega arith in
      let o : g (suc (suc j * n + j)) ≡ f (suc n) = ap g (sym e) ∙ on (suc n) in
      let a = block n j (omega arith) in
      let b = upto_times n in
      rw (e, o) (omega arith)

  rank_times : (n : ℕ) → rank g (suc j * n) ≡ rank f n
  rank_times zero = ap (rank g) (mul-zero (suc j))
  rank_times (suc n) =
      let e : suc j * suc n ≡ suc (suc j * n + j) = omega arith in
      let a = block n j (omega arith) in
      let b = upto_times n in
      rw e (omega arith)

pub ranked_times : (j : ℕ) (s : List Part) → ranked (map (times (suc j)) s) ≡ ranked s
ranked_times j s =
    map-map (classed g) (times (suc j)) s
    ∙ map_ext (λ p. classed g (times (suc j) p)) (classed f) (λ p. ap (part p.ceiling p.whole) (rank_times j f g on off p.rest)) s
  where
    f : ℕ → Bool
    f = seen s

    g : ℕ → Bool
    g = seen (map (times (suc j)) s)

    same : (b v : ℕ) → eqb (suc j * b) (suc j * v) ≡ eqb b v
    same b v = elim (cases_eq b v) [
      | inl e ↦ eq-eqb (suc j * b) (suc j * v) (ap (λ n. suc j * n) e) ∙ sym (eq-eqb b v e)
      | inr d ↦ ne_eqb (suc j * b) (suc j * v) (λ e. d (eq_of_mul-eq-mul_left (suc j) (omega arith) b v e)) ∙ sym (ne_eqb b v d)
    ]

    on : (v : ℕ) → g (suc j * v) ≡ f v
    on v = some_map (λ p. eqb p.rest (suc j * v)) (times (suc j)) s ∙ some_ext (λ p. eqb (suc j * p.rest) (suc j * v)) (λ p. eqb p.rest v) (λ p. same p.rest v) s

    between : (b v i : ℕ) → 0 < i → i < suc j → suc j * b ≡ suc j * v + i → ⊥
    between b v i z l e = elim (cases_lt v b)
        [ inl k ↦ omega (arith, mul-le-mul_left (suc j) k) | inr k ↦ omega (arith, mul-le-mul_left (suc j) k) ]

    off : (v i : ℕ) → 0 < i → i < suc j → g (suc j * v + i) ≡ false
    off v i z l =
        some_map (λ p. eqb p.rest (suc j * v + i)) (times (suc j)) s
        ∙ some_none (λ p. eqb (suc j * p.rest) (suc j * v + i)) (λ p. ne_eqb (suc j * p.rest) (suc j * v + i) (between p.rest v i z l)) s

-- B. the region is the same at every finer scale
pub scales : (k D : ℕ) (xs : List Clock) → 0 < k → 0 < D → region_of (k * D) (finer k xs) ≡ region_of D xs
scales zero D xs j z = let n : ⊥ = omega arith in absurd n
scales (suc k) D xs j z =
    ap ranked
    (map-map (spot (suc k * D)) (λ x. clock x.ceiling (suc k * x.reading)) xs
    ∙ map_ext (λ x. spot (suc k * D) (clock x.ceiling (suc k * x.reading))) (λ x. times (suc k) (spot D x)) (λ x. spot_finer (suc k) D x j z) xs
    ∙ sym (map-map (times (suc k)) (spot D) xs))
    ∙ ranked_times k (map (spot D) xs)
