-- Clocks that restart, and guards.
use Rattle.std.proofs.Common.{◌≡◌, ℕ, zero, suc, ◌+◌, ◌*◌, ◌/◌, ◌%◌, ◌<◌, ◌≤◌, Bool, true, false, cond, ◌&&◌, eqb, ltb, ◌⊎◌, List, [], ◌∷◌, map, sym, refl, ap, ◌∙◌, ap₂, inl, inr, add-zero, mul-le-mul_right, add-one, arith}
use mathlib.Core.List.{map-map}
use native.Mathlib.Nat.{zero-div, zero-mod}
use Rattle.std.specs.List.{AllByRecursion}
use Rattle.std.proofs.lemmas.Bool.Decides.{nat_tests}
use Rattle.std.proofs.ByRecursion.{All-weaker}
use Rattle.std.proofs.lemmas.Bool.{cases_order, cases_Bool, eq-eqb, ne_eqb, le-ltb, both_ways}
use Rattle.clocks.specs.Regions.{Clock, Part, clock, part, spot, seen, upto, rank, classed, ranked, restarted, zeroed}
use Rattle.clocks.specs.Theorems.{Guards, Restarts}
use Rattle.clocks.proofs.Lists.{map_same, some_same, some_map, each_none, rank_strict, seen_each}
use Rattle.clocks.proofs.Ticks.{rank_pos}
use Rattle.clocks.proofs.Spots.{stands, spot_at, spot_past}

-- ranks among ranks
module _ (f g h : ℕ → Bool) (sub : (u : ℕ) → f (suc u) ≡ false → g (suc u) ≡ false) (on : (u : ℕ) → f (suc u) ≡ true → h (rank f (suc u)) ≡ g (suc u)) where
  upto_upto : (n : ℕ) → upto h (upto f n) ≡ upto g n
  upto_upto zero = refl
  upto_upto (suc n) = elim (cases_Bool (f (suc n))) [
    | inl t ↦ let a = on n t in rw (t, add-one, a) (ap (λ k. k + cond (g (suc n)) 1 0) (upto_upto n))
    | inr t ↦ let a = sub n t in rw (t, a) (simp add-zero (upto_upto n))
  ]

  rank_rank : (n : ℕ) → rank h (rank f n) ≡ rank g n
  rank_rank zero = refl
  rank_rank (suc n) = ap suc (upto_upto n)

-- 0, or seen
abbrev Known : (ℕ → Bool) → Part → Type 0
Known f p = (p.rest ≡ 0) ⊎ (f p.rest ≡ true)

rank_same : (f : ℕ → Bool) (b u : ℕ) → (b ≡ 0) ⊎ (f b ≡ true) → f (suc u) ≡ true → eqb (rank f b) (rank f (suc u)) ≡ eqb b (suc u)
rank_same f zero u k t = grind (arith, nat_tests)
rank_same f (suc b) u k t = elim (cases_order b u) [
  | inl e ↦ rw e (eq-eqb (rank f (suc u)) (rank f (suc u)) refl ∙ sym (eq-eqb (suc u) (suc u) refl))
  | inr o ↦ elim o [
    | inl l ↦ elim k [
      | inl z ↦ let w : ⊥ = omega arith in absurd w
      | inr s ↦ let r = rank_strict f b (suc u) s (omega arith) in grind (arith, nat_tests)
    ]
    | inr l ↦ let r = rank_strict f u (suc b) t (omega arith) in grind (arith, nat_tests)
  ]
]

rerank : (f : ℕ → Bool) (s : List Part) → AllByRecursion (Known f) s → ranked (map (classed f) s) ≡ ranked s
rerank f s k =
    map-map (classed h) (classed f) s
    ∙ map_same (Known f) (λ p. classed h (classed f p)) (classed g) (λ p _. ap (part p.ceiling p.whole) (rank_rank f g h sub on p.rest)) s k
  where
    g : ℕ → Bool
    g = seen s

    h : ℕ → Bool
    h = seen (map (classed f) s)

    on : (u : ℕ) → f (suc u) ≡ true → h (rank f (suc u)) ≡ g (suc u)
    on u t = some_map (λ p. eqb p.rest (rank f (suc u))) (classed f) s
        ∙ some_same (Known f) (λ p. eqb (rank f p.rest) (rank f (suc u))) (λ p. eqb p.rest (suc u)) (λ p j. rank_same f p.rest u j t) s k

    sub : (u : ℕ) → f (suc u) ≡ false → g (suc u) ≡ false
    sub u t = each_none (Known f) (λ p. eqb p.rest (suc u)) (λ p j. ne_eqb p.rest (suc u) (other p j)) s k
      where
        other : (p : Part) → Known f p → p.rest ≡ suc u → ⊥
        other p (inl z) e = omega arith
        other p (inr y) e = both_ways (f (suc u)) t (ap f (sym e) ∙ y)

spot_zero : (D c : ℕ) → spot D (clock c 0) ≡ part c 0 0
spot_zero D c = let a : ltb (c * D) 0 ≡ false = le-ltb (c * D) 0 (omega arith) in rw (a, zero-div D, zero-mod D)

spot_ceiling : (D : ℕ) (x : Clock) → (spot D x).ceiling ≡ x.ceiling
spot_ceiling D x = either (ltb (x.ceiling * D) x.reading)
  where
    either : (b : Bool) → (cond b (part x.ceiling (x.ceiling + 1) 0) (part x.ceiling (x.reading / D) (x.reading % D))).ceiling ≡ x.ceiling
    either true = refl
    either false = refl

spots_zeroed : (D : ℕ) (bs : List Bool) (xs : List Clock) → map (spot D) (restarted bs xs) ≡ zeroed bs (map (spot D) xs)
spots_zeroed D [] xs = refl
spots_zeroed D (b ∷ bs) [] = refl
spots_zeroed D (true ∷ bs) (x ∷ xs) = ap₂ ◌∷◌ (spot_zero D x.ceiling ∙ ap (λ c. part c 0 0) (sym (spot_ceiling D x))) (spots_zeroed D bs xs)
spots_zeroed D (false ∷ bs) (x ∷ xs) = ap (λ ps. spot D x ∷ ps) (spots_zeroed D bs xs)

zeroed_classed : (f : ℕ → Bool) (bs : List Bool) (s : List Part) → zeroed bs (map (classed f) s) ≡ map (classed f) (zeroed bs s)
zeroed_classed f [] s = refl
zeroed_classed f (b ∷ bs) [] = refl
zeroed_classed f (true ∷ bs) (p ∷ s) = ap (λ ps. part p.ceiling 0 0 ∷ ps) (zeroed_classed f bs s)
zeroed_classed f (false ∷ bs) (p ∷ s) = ap (λ ps. classed f p ∷ ps) (zeroed_classed f bs s)

zeroed_known : (f : ℕ → Bool) (bs : List Bool) (s : List Part) → AllByRecursion (λ p. f p.rest ≡ true) s → AllByRecursion (Known f) (zeroed bs s)
zeroed_known f [] s h = All-weaker (λ p. f p.rest ≡ true) (Known f) (λ p k. inr k) s h
zeroed_known f (b ∷ bs) [] h = tt
zeroed_known f (true ∷ bs) (p ∷ s) h = (inl refl, zeroed_known f bs s h.1)
zeroed_known f (false ∷ bs) (p ∷ s) h = (inr h.0, zeroed_known f bs s h.1)

pub restarts_stand : Restarts
restarts_stand D bs xs z =
    let s : List Part = map (spot D) xs in
    ap ranked (spots_zeroed D bs xs) ∙ sym (rerank (seen s) (zeroed bs s) (zeroed_known (seen s) bs s (seen_each s))) ∙ ap ranked (sym (zeroed_classed (seen s) bs s))

guard_past : (D c k x : ℕ) (f : ℕ → Bool) → k ≤ c → c * D < x
    → (ltb x (k * D) ≡ ltb (c + 1) k) × (eqb x (k * D) ≡ (eqb (c + 1) k && eqb (rank f 0) 0))
guard_past D c k x f l h = let a = mul-le-mul_right D l in (grind (arith, nat_tests), grind (arith, nat_tests))

guard_at : (D k q r : ℕ) (f : ℕ → Bool) → r < D
    → (ltb (q * D + r) (k * D) ≡ ltb q k) × (eqb (q * D + r) (k * D) ≡ (eqb q k && eqb (rank f r) 0))
guard_at D k q r f h = rw (rank_pos f r) (elim (cases_order q k) [
  | inl e ↦ rw e (grind (arith, nat_tests), grind (arith, nat_tests))
  | inr o ↦ elim o [
    | inl l ↦ let a = mul-le-mul_right D l in (grind (arith, nat_tests), grind (arith, nat_tests))
    | inr l ↦ let a = mul-le-mul_right D l in (grind (arith, nat_tests), grind (arith, nat_tests))
  ]
])

pub guards_stand : Guards
guards_stand D k f x z l = elim (stands D x.ceiling x.reading z) [
  | inl h ↦ rw (spot_past D x.ceiling x.reading h) (guard_past D x.ceiling k x.reading f l h)
  | inr t ↦ rw (t.2, spot_at D x.ceiling t.0 t.1 t.3) (guard_at D k t.0 t.1 f t.3.0)
]
