-- What every region has, and that whatever has it is a region.
use Rattle.std.proofs.Common.{◌≡◌, ℕ, zero, suc, ◌+◌, ◌*◌, ◌<◌, ◌≤◌, Bool, true, eqb, List, [], ◌∷◌, map, Some, sym, refl, ap, ◌∙◌, subst, ap₂, inl, inr, arith}
use mathlib.Core.List.{map-map}
use Rattle.std.specs.List.{AllByRecursion}
use Rattle.std.proofs.ByRecursion.{All-map, All-weaker}
use Rattle.std.proofs.lemmas.Bool.{cases_lt, cases_Bool, eq-eqb, eqb-true}
use Rattle.clocks.specs.Regions.{Clock, Part, clock, part, spot, seen, upto, rank, classed, ranked, region_of, top, waits, later, finer, Within, Own}
use Rattle.clocks.proofs.Lists.{map_keep, some_map, some_more, all_both, all_any, seen_each}
use Rattle.clocks.proofs.Ticks.{Fine}
use Rattle.clocks.proofs.Spots.{spot_at, spot_past, spot_fine, scales}
use Rattle.clocks.proofs.Walks.{walk, reach, finer_even}

-- a rank below another is the rank of something seen
module _ (f : ℕ → Bool) where
  find : (n v : ℕ) → 0 < v → v ≤ upto f n → (u : ℕ) × (f u ≡ true) × (rank f u ≡ v)
  find zero v z l = let w : ⊥ = omega arith in absurd w
  find (suc n) v z l = elim (cases_lt (upto f n) v) [
    | inl k ↦ elim (cases_Bool (f (suc n))) [
      | inl t ↦ (suc n, t, let j : v ≤ upto f n + 1 = rw t at l in omega arith)
      | inr t ↦ let j : v ≤ upto f n + 0 = rw t at l in let w : ⊥ = omega arith in absurd w
    ]
    | inr k ↦ find n v z k
  ]

  find_rank : (b v : ℕ) → f b ≡ true → 0 < v → v ≤ rank f b → (u : ℕ) × (f u ≡ true) × (rank f u ≡ v)
  find_rank zero v t z l = let w : ⊥ = omega arith in absurd w
  find_rank (suc n) v t z l = elim (cases_lt (upto f n) v) [ inl k ↦ (suc n, t, omega arith) | inr k ↦ find n v z k ]

  find_top : (ps : List Part) (v : ℕ) → AllByRecursion (λ p. f p.rest ≡ true) ps → 0 < v → v ≤ top (map (classed f) ps) → (u : ℕ) × (f u ≡ true) × (rank f u ≡ v)
  find_top [] v h z l = let w : ⊥ = omega arith in absurd w
  find_top (p ∷ ps) v h z l = elim (cases_lt (rank f p.rest) v)
      [ inl k ↦ find_top ps v h.1 z (omega arith) | inr k ↦ find_rank p.rest v h.0 z k ]

  pub upto_own : (n : ℕ) → ((v : ℕ) → 0 < v → v ≤ n → f v ≡ true) → upto f n ≡ n
  upto_own zero e = refl
  upto_own (suc n) e = let a = upto_own n (λ v z l. e v z (omega arith)) in let t = e (suc n) (omega arith) (omega arith) in rw t (omega arith)

no_gap : (s : List Part) (v : ℕ) → 0 < v → v ≤ top (ranked s) → seen (ranked s) v ≡ true
no_gap s v z l =
    let t = find_top (seen s) s v (seen_each s) z l in
    some_map (λ p. eqb p.rest v) (classed (seen s)) s
    ∙ some_more (λ _. Unit {0}) (λ p. eqb p.rest t.0) (λ p. eqb (rank (seen s) p.rest) v)
    (λ p _ e. eq-eqb (rank (seen s) p.rest) v (ap (rank (seen s)) (eqb-true p.rest t.0 e) ∙ t.2)) s (all_any (λ _. Unit {0}) (λ _. tt) s) t.1

-- E. a region is own
pub owned : (D : ℕ) (xs : List Clock) → 0 < D → Own (region_of D xs)
owned D xs z =
    let s : List Part = map (spot D) xs in
    let h : AllByRecursion (Fine D) s = All-map (Fine D) (spot D) xs (all_any (λ x. Fine D (spot D x)) (λ x. spot_fine D x z) xs) in
    record {
      within = All-map Within (classed (seen s)) s (All-weaker (Fine D) (λ p. Within (classed (seen s) p)) (λ p k. (k.1, below (seen s) p.ceiling p.whole p.rest k)) s h);
      gapless = no_gap s;
    }
  where
    below : (f : ℕ → Bool) (c w b : ℕ) → Fine D (part c w b) → 0 < rank f b → w < c
    below f c w zero h k = omega arith
    below f c w (suc b) h k = elim (cases_lt w c) [ inl l ↦ l | inr l ↦ let e = h.2 l in omega arith ]

-- readings that an own region is the region of
abbrev pub readings : ℕ → List Part → List Clock
readings D r = map (λ p. clock p.ceiling (p.whole * D + p.rest)) r

top_all : (ps : List Part) → AllByRecursion (λ p. p.rest ≤ top ps) ps
top_all ps = go ps (omega arith)
  where
    go : (qs : List Part) → top qs ≤ top ps → AllByRecursion (λ p. p.rest ≤ top ps) qs
    go [] l = tt
    go (q ∷ qs) l = (omega arith, go qs (omega arith))

spot_back : (D : ℕ) (p : Part) → Within p × (p.rest < D) → spot D (clock p.ceiling (p.whole * D + p.rest)) ≡ p
spot_back D p h = elim (cases_lt p.ceiling p.whole) [
  | inl l ↦
      let w : p.whole ≡ p.ceiling + 1 = omega arith in
      let b : p.rest ≡ 0 = zero_rest (omega arith) in
      spot_past D p.ceiling (p.whole * D + p.rest) (rw (w, b) (omega arith)) ∙ sym (ap₂ (part p.ceiling) w b)
  | inr l ↦ spot_at D p.ceiling p.whole p.rest (h.1, l, zero_rest)
]
  where
    zero_rest : p.ceiling ≤ p.whole → p.rest ≡ 0
    zero_rest l = elim (cases_lt 0 p.rest) [ inl k ↦ let j = h.0.1 k in omega arith | inr k ↦ omega arith ]

pub is_region : (D : ℕ) (r : List Part) → top r < D → Own r → region_of D (readings D r) ≡ r
is_region D r l h = ap ranked spots ∙ keep
  where
    spots : map (spot D) (readings D r) ≡ r
    spots = map-map (spot D) (λ p. clock p.ceiling (p.whole * D + p.rest)) r
        ∙ map_keep (λ p. Within p × (p.rest < D)) (λ p. spot D (clock p.ceiling (p.whole * D + p.rest))) (spot_back D) r
        (all_both Within (λ p. p.rest < D) r h.within (All-weaker (λ p. p.rest ≤ top r) (λ p. p.rest < D) (λ p k. omega arith) r (top_all r)))

    same : (n : ℕ) → n ≤ top r → rank (seen r) n ≡ n
    same zero k = refl
    same (suc n) k = ap suc (upto_own (seen r) n (λ v z j. h.gapless v z (omega arith)))

    keep : ranked r ≡ r
    keep = map_keep (λ p. p.rest ≤ top r) (classed (seen r)) (λ p k. ap (part p.ceiling p.whole) (same p.rest k)) r (top_all r)

pub keeps : (n : ℕ) (r after : List Part) → Own r → waits n r ≡ Some after → Own after
keeps n r after h e =
    let D : ℕ = suc (top r) in
    let xs : List Clock = finer 2 (readings D r) in
    let z : 0 < D = omega arith in
    let same : region_of (2 * D) xs ≡ r = scales 2 D (readings D r) (omega arith) z ∙ is_region D r (omega arith) h in
    let w : waits n (region_of (2 * D) xs) ≡ Some after = ap (waits n) same ∙ e in
    let t = reach D 0 xs z (finer_even (readings D r)) n after w in
    let j : Some (region_of (2 * D) (later t.0 xs)) ≡ Some after = sym (walk D 0 xs z (finer_even (readings D r)) t.0) ∙ ap (λ k. waits k (region_of (2 * D) xs)) t.1 ∙ w in
    let i : region_of (2 * D) (later t.0 xs) ≡ after = cc in
    subst Own i (owned (2 * D) (later t.0 xs) (omega arith))
