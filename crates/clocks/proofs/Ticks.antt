-- One grain more.
use Rattle.std.proofs.Common.{◌≡◌, ℕ, zero, suc, ◌+◌, ◌<◌, ◌≤◌, Bool, true, false, cond, ◌&&◌, ◌||◌, eqb, ltb, leb, List, map, Some, sym, refl, ap, ◌∙◌, inl, inr, arith}
use mathlib.Core.List.{map-map}
use Rattle.std.specs.List.{AllByRecursion}
use Rattle.std.proofs.lemmas.Bool.Decides.{nat_tests}
use Rattle.std.proofs.ByRecursion.{All-map, All-weaker}
use Rattle.std.proofs.lemmas.Bool.{cases_lt, eqb-true, eq-eqb}
use Rattle.clocks.specs.Regions.{Part, part, some, seen, rank, classed, ranked, resting, rising, leave, top, arrive, next}
use Rattle.clocks.proofs.Lists.{map_same, map_keep, some_same, some_map, some_ext, some_more, none_each, each_none, shift, rank_mono, rank_strict, top_is, seen_each, all_both}

-- a spot at scale E
abbrev pub Fine : ℕ → Part → Type 0
Fine E p = (p.rest < E) × (p.whole ≤ p.ceiling + 1) × (p.ceiling ≤ p.whole → p.rest ≡ 0)

abbrev pub tick : ℕ → Part → Part
tick E p =
    cond (ltb p.ceiling p.whole) p
    (cond (ltb p.whole p.ceiling)
    (cond (ltb (suc p.rest) E) (part p.ceiling p.whole (suc p.rest)) (part p.ceiling (p.whole + 1) 0))
    (part p.ceiling (p.ceiling + 1) 0))

-- A. no rest is E - 1
abbrev pub Low : ℕ → Part → Type 0
Low E p = Fine E p × (p.rest + 1 < E)

low_seen : (E v : ℕ) (p : Part) → Low E p → eqb (tick E p).rest (suc (suc v)) ≡ eqb p.rest (suc v)
low_seen E v p h = grind (arith, nat_tests)

low_one : (E : ℕ) (p : Part) → Low E p → eqb (tick E p).rest 1 ≡ rising p
low_one E p h = grind (arith, nat_tests)

pub rank_pos : (f : ℕ → Bool) (n : ℕ) → eqb (rank f n) 0 ≡ eqb n 0
rank_pos f zero = refl
rank_pos f (suc n) = grind (arith, nat_tests)

low_classed : (E : ℕ) (f g : ℕ → Bool) (c w b : ℕ) → Low E (part c w b) → ((v : ℕ) → g (suc (suc v)) ≡ f (suc v))
    → classed g (tick E (part c w b)) ≡ leave (g 1) (classed f (part c w b))
low_classed E f g c w zero h e = grind (arith, nat_tests)
low_classed E f g c w (suc n) h e = let a = shift f g n (λ v _. e v) in grind (arith, nat_tests)

pub rising_classed : (f : ℕ → Bool) (ps : List Part) → some rising (map (classed f) ps) ≡ some rising ps
rising_classed f ps =
    some_map rising (classed f) ps ∙ some_ext (λ p. rising (classed f p)) rising (λ p. ap (λ b. ltb p.whole p.ceiling && b) (rank_pos f p.rest)) ps

pub resting_classed : (f : ℕ → Bool) (ps : List Part) → some resting (map (classed f) ps) ≡ some resting ps
resting_classed f ps =
    some_map resting (classed f) ps ∙ some_ext (λ p. resting (classed f p)) resting (λ p. ap (λ b. leb p.whole p.ceiling && b) (rank_pos f p.rest)) ps

low_leaves : (E : ℕ) (s : List Part) → AllByRecursion (Low E) s → ranked (map (tick E) s) ≡ map (leave (some rising (ranked s))) (ranked s)
low_leaves E s h =
    map-map (classed g) (tick E) s
    ∙ map_same (Low E) (λ p. classed g (tick E p)) (λ p. leave (g 1) (classed f p)) (λ p k. low_classed E f g p.ceiling p.whole p.rest k up) s h
    ∙ sym (map-map (leave (g 1)) (classed f) s)
    ∙ ap (λ b. map (leave b) (ranked s)) one
  where
    f : ℕ → Bool
    f = seen s

    g : ℕ → Bool
    g = seen (map (tick E) s)

    up : (v : ℕ) → g (suc (suc v)) ≡ f (suc v)
    up v = some_map (λ p. eqb p.rest (suc (suc v))) (tick E) s ∙ some_same (Low E) (λ p. eqb (tick E p).rest (suc (suc v))) (λ p. eqb p.rest (suc v)) (λ p k. low_seen E v p k) s h

    one : g 1 ≡ some rising (ranked s)
    one = some_map (λ p. eqb p.rest 1) (tick E) s ∙ some_same (Low E) (λ p. eqb (tick E p).rest 1) rising (low_one E) s h ∙ sym (rising_classed f s)

leave_none : (p : Part) → resting p ≡ false → leave false p ≡ p
leave_none p h = grind (arith, nat_tests)

-- without a clock at rest nothing leaves
stays : (r : List Part) → some resting r ≡ false → map (leave (some rising r)) r ≡ r
stays r h =
    let a = none_each resting r h in
    let e : some rising r ≡ false = each_none (λ p. resting p ≡ false) rising (λ p k. grind (arith, nat_tests)) r a in
    ap (λ b. map (leave b) r) e ∙ map_keep (λ p. resting p ≡ false) (leave false) leave_none r a

-- B. no clock is at rest
abbrev pub High : ℕ → Part → Type 0
High E p = Fine E p × (p.whole ≤ p.ceiling → 0 < p.rest)

high_seen : (E v : ℕ) (p : Part) → suc (suc v) < E → High E p → eqb (tick E p).rest (suc (suc v)) ≡ eqb p.rest (suc v)
high_seen E v p l h = grind (arith, nat_tests)

high_one : (E : ℕ) (p : Part) → High E p → eqb (tick E p).rest 1 ≡ false
high_one E p h = grind (arith, nat_tests)

high_below : (E : ℕ) (f g : ℕ → Bool) (c w b : ℕ) → High E (part c w b) → suc b < E → g 1 ≡ false → ((v : ℕ) → suc (suc v) < E → g (suc (suc v)) ≡ f (suc v))
    → classed g (tick E (part c w b)) ≡ classed f (part c w b)
high_below E f g c w zero h l z e = grind (arith, nat_tests)
high_below E f g c w (suc n) h l z e = let a = shift f g n (λ v k. e v (omega arith)) in grind (arith, nat_tests)

high_arrives : (E : ℕ) (f g : ℕ → Bool) (c w b : ℕ) → High (suc (suc E)) (part c w b) × (f b ≡ true) → g 1 ≡ false
    → ((v : ℕ) → suc (suc v) < suc (suc E) → g (suc (suc v)) ≡ f (suc v))
    → classed g (tick (suc (suc E)) (part c w b)) ≡ arrive (rank f (suc E)) (classed f (part c w b))
high_arrives E f g c w zero h z e = grind (arith, nat_tests)
high_arrives E f g c w (suc n) h z e = elim (cases_lt (suc n) (suc E)) [
  | inl l ↦ let a = high_below (suc (suc E)) f g c w (suc n) h.0 (omega arith) z e in
      let k = rank_strict f n (suc E) h.1 l in
      let d : eqb (rank f (suc n)) (rank f (suc E)) ≡ false = grind (arith, nat_tests) in rw d a
  | inr l ↦ let j : n ≡ E = omega arith in rw j (grind (arith, nat_tests))
]

module _ (E : ℕ) (s : List Part) (h : AllByRecursion (High (suc (suc E))) s) where
  high_up : (v : ℕ) → suc (suc v) < suc (suc E) → seen (map (tick (suc (suc E))) s) (suc (suc v)) ≡ seen s (suc v)
  high_up v l =
      some_map (λ p. eqb p.rest (suc (suc v))) (tick (suc (suc E))) s
      ∙ some_same (High (suc (suc E))) (λ p. eqb (tick (suc (suc E)) p).rest (suc (suc v))) (λ p. eqb p.rest (suc v)) (λ p k. high_seen (suc (suc E)) v p l k) s h

  high_no_one : seen (map (tick (suc (suc E))) s) 1 ≡ false
  high_no_one =
      some_map (λ p. eqb p.rest 1) (tick (suc (suc E))) s ∙ each_none (High (suc (suc E))) (λ p. eqb (tick (suc (suc E)) p).rest 1) (high_one (suc (suc E))) s h

  high_stays : seen s (suc E) ≡ false → ranked (map (tick (suc (suc E))) s) ≡ ranked s
  high_stays k =
      map-map (classed (seen (map (tick (suc (suc E))) s))) (tick (suc (suc E))) s
      ∙ map_same (λ p. High (suc (suc E)) p × (eqb p.rest (suc E) ≡ false)) (λ p. classed (seen (map (tick (suc (suc E))) s)) (tick (suc (suc E)) p)) (classed (seen s))
      (λ p j. high_below (suc (suc E)) (seen s) (seen (map (tick (suc (suc E))) s)) p.ceiling p.whole p.rest j.0 (grind (arith, nat_tests)) high_no_one high_up)
      s (all_both (High (suc (suc E))) (λ p. eqb p.rest (suc E) ≡ false) s h (none_each (λ p. eqb p.rest (suc E)) s k))

  high_top : seen s (suc E) ≡ true → top (ranked s) ≡ rank (seen s) (suc E)
  high_top k =
      top_is (rank (seen s) (suc E)) (ranked s)
      (All-map (λ p. p.rest ≤ rank (seen s) (suc E)) (classed (seen s)) s
      (All-weaker (High (suc (suc E))) (λ p. rank (seen s) p.rest ≤ rank (seen s) (suc E)) (λ p j. rank_mono (seen s) p.rest (suc E) (omega arith)) s h))
      (some_map (λ p. eqb p.rest (rank (seen s) (suc E))) (classed (seen s)) s
      ∙ some_more (High (suc (suc E))) (λ p. eqb p.rest (suc E)) (λ p. eqb (rank (seen s) p.rest) (rank (seen s) (suc E)))
      (λ p _ j. eq-eqb (rank (seen s) p.rest) (rank (seen s) (suc E)) (ap (rank (seen s)) (eqb-true p.rest (suc E) j))) s h k)

  high_moves : seen s (suc E) ≡ true → ranked (map (tick (suc (suc E))) s) ≡ map (arrive (top (ranked s))) (ranked s)
  high_moves k =
      map-map (classed (seen (map (tick (suc (suc E))) s))) (tick (suc (suc E))) s
      ∙ map_same (λ p. High (suc (suc E)) p × (seen s p.rest ≡ true)) (λ p. classed (seen (map (tick (suc (suc E))) s)) (tick (suc (suc E)) p))
      (λ p. arrive (rank (seen s) (suc E)) (classed (seen s) p))
      (λ p j. high_arrives E (seen s) (seen (map (tick (suc (suc E))) s)) p.ceiling p.whole p.rest j high_no_one high_up)
      s (all_both (High (suc (suc E))) (λ p. seen s p.rest ≡ true) s h (seen_each s))
      ∙ sym (map-map (arrive (rank (seen s) (suc E))) (classed (seen s)) s)
      ∙ ap (λ t. map (arrive t) (ranked s)) (sym (high_top k))

-- a clock that is not past, and at rest or one grain before it
abbrev pub turning : ℕ → Part → Bool
turning E p = leb p.whole p.ceiling && (eqb p.rest 0 || eqb (suc p.rest) E)

-- what a grain does: it leads to the next region, or leaves the region as it is
abbrev pub Step : Bool → List Part → List Part → Type 0
Step moves r after = (moves ≡ true → next r ≡ Some after) × (moves ≡ false → after ≡ r)

pub low_step : (E : ℕ) (s : List Part) → AllByRecursion (Low E) s → Step (some (turning E) s) (ranked s) (ranked (map (tick E) s))
low_step E s h = (
  λ m. let k : some resting (ranked s) ≡ true = resting_classed (seen s) s ∙ sym e ∙ m in
      rw (k, low_leaves E s h),
  λ m. let k : some resting (ranked s) ≡ false = resting_classed (seen s) s ∙ sym e ∙ m in
      low_leaves E s h ∙ stays (ranked s) k,
)
  where
    e : some (turning E) s ≡ some resting s
    e = some_same (Low E) (turning E) resting (λ p j. grind (arith, nat_tests)) s h

high_step₂ : (E : ℕ) (s : List Part) → AllByRecursion (High (suc (suc E))) s → Step (some (turning (suc (suc E))) s) (ranked s) (ranked (map (tick (suc (suc E))) s))
high_step₂ E s h = (
  λ m. let k : seen s (suc E) ≡ true = sym e ∙ m in
      let t = high_top E s h k in
      let z : some resting (ranked s) ≡ false = resting_classed (seen s) s ∙ each_none (High (suc (suc E))) resting (λ p j. grind (arith, nat_tests)) s h in
      let l : ltb 0 (top (ranked s)) ≡ true = rw t (grind (arith, nat_tests)) in
      rw (z, l, high_moves E s h k),
  λ m. high_stays E s h (sym e ∙ m),
)
  where
    e : some (turning (suc (suc E))) s ≡ seen s (suc E)
    e = some_same (High (suc (suc E))) (turning (suc (suc E))) (λ p. eqb p.rest (suc E)) (λ p j. grind (arith, nat_tests)) s h

pub high_step : (E : ℕ) (s : List Part) → 1 < E → AllByRecursion (High E) s → Step (some (turning E) s) (ranked s) (ranked (map (tick E) s))
high_step zero s l h = let n : ⊥ = omega arith in absurd n
high_step (suc zero) s l h = let n : ⊥ = omega arith in absurd n
high_step (suc (suc E)) s l h = high_step₂ E s h
