-- In a closed graph there are ranks that keep the rule for an odd colour, or a losing loop of it.
use Rattle.std.proofs.Common.{◌≡◌, ℕ, zero, suc, ◌+◌, ◌-◌, ◌%◌, ◌<◌, ◌≤◌, cond, eqb, ◌⊎◌, List, refl, ap, ◌∙◌, inl, inr, ⊎_elim, arith}
use Rattle.std.proofs.lemmas.Bool.{cases_eq, cases_lt, eq-eqb, ne_eqb, cond-true, cond-false}
use Rattle.loops.specs.declared.pair.Pair.{Pair}
use Rattle.loops.specs.Graph.{Graph, Closed, Losing, due, Keeps}
use Rattle.loops.specs.Lifting.{Lifted, after, way, OnRing}
use Rattle.loops.proofs.Firsts.{First, some_or_none}
use Rattle.loops.proofs.Lifts.{lifted_none, lifted_more}
use Rattle.loops.proofs.Rings.{Picks, lifted_picks, most_steps, on_ring, ring_top, ring_loses}

-- f with another value at s
put : (ℕ → ℕ) → ℕ → ℕ → ℕ → ℕ
put f s v r = cond (eqb r s) v (f r)

put_same : (f : ℕ → ℕ) (s v : ℕ) → put f s v s ≡ v
unfolding put
put_same f s v = cond-true _ _ _ (eq-eqb s s refl)

put_other : (f : ℕ → ℕ) (s v r : ℕ) → (r ≡ s → ⊥) → put f s v r ≡ f r
unfolding put
put_other f s v r e = cond-false _ _ _ (ne_eqb r s e)

-- by how much the ranks of the first k rows can rise below n
slack : ℕ → (ℕ → ℕ) → ℕ → ℕ
slack n rank zero = 0
slack n rank (suc k) = (n - rank k) + slack n rank k

slack_same : (n : ℕ) (rank rank' : ℕ → ℕ) (k : ℕ) → ((r : ℕ) → r < k → rank' r ≡ rank r) → slack n rank' k ≡ slack n rank k
unfolding slack
slack_same n rank rank' zero h = refl
slack_same n rank rank' (suc k) h = omega (arith, h k (omega arith), slack_same n rank rank' k (λ r b. h r (omega arith)))

slack_less : (n : ℕ) (rank rank' : ℕ → ℕ) (k s : ℕ) → s < k → ((r : ℕ) → (r ≡ s → ⊥) → rank' r ≡ rank r) → rank s < rank' s → rank s < n →
    slack n rank' k < slack n rank k
unfolding slack
slack_less n rank rank' zero s b h up room = absurd (omega arith)
slack_less n rank rank' (suc k) s b h up room =
    ⊎_elim
    (λ (e : k ≡ s).
    omega (arith, ap rank e, ap rank' e, slack_same n rank rank' k (λ r c. h r (omega arith))))
    (λ (e : k ≡ s → ⊥). omega (arith, h k e, slack_less n rank rank' k s (omega arith) h up room))
    (cases_eq k s)

module _ (g : Graph) (p : ℕ) (closed : Closed g) (odd : p % 2 ≡ 1) where
  abbrev Loop : Type 0
  Loop = (loop : List Pair) × Losing g p loop

  abbrev Fits : (ℕ → ℕ) → Type 0
  Fits rank = Keeps g p rank × ((s : ℕ) → s < g.size → rank s < g.size)

  module _ (rank pick : ℕ → ℕ) (up : Lifted g p rank pick) where
    picks : Picks g rank pick
    picks = lifted_picks g p rank pick up

    ring_loop : (s : ℕ) → OnRing g rank pick g.size s → Loop
    ring_loop s ring =
        ⊎_elim
        (λ (f : First (λ k. after g pick (suc k) s ≡ s) ring.length). (
          way g pick (suc f.number) s,
          ring_loses g rank pick closed picks p g.size f.number s odd ring f.holds (λ j. sooner f.number f.before j) (ring_top g p rank pick closed up g.size f.number s ring f.holds),
        ))
        (λ (none : (k : ℕ) → k < ring.length → after g pick (suc k) s ≡ s → ⊥).
        absurd (none (ring.length - 1) (omega (arith, ring.some)) (ap (λ k. after g pick k s) (let q : suc (ring.length - 1) ≡ ring.length = omega (arith, ring.some) in q) ∙ ring.back)))
        (some_or_none (λ k. after g pick (suc k) s ≡ s) (λ k. cases_eq (after g pick (suc k) s) s) ring.length)
      where
        sooner : (n : ℕ) → ((k : ℕ) → k < n → after g pick (suc k) s ≡ s → ⊥) → (j : ℕ) → 0 < j → j < suc n → after g pick j s ≡ s → ⊥
        sooner n before zero a b e = omega arith
        sooner n before (suc j) a b e = before j (omega arith) e

    -- a rank that has come to the number of rows shows a loop
    high_loop : (s : ℕ) → s < g.size → g.size ≤ rank s → Loop
    high_loop s b high =
        ⊎_elim
        (λ (f : First (λ k. rank (after g pick k s) ≡ 0) g.size).
        absurd (omega (arith, f.below, f.holds, most_steps g p rank pick closed up f.number s b (λ j c. positive j (f.before j c)))))
        (λ (none : (k : ℕ) → k < g.size → rank (after g pick k s) ≡ 0 → ⊥).
        ring_loop (after g pick g.size s) (on_ring g rank pick closed picks s b (λ j c. positive j (none j c))))
        (some_or_none (λ k. rank (after g pick k s) ≡ 0) (λ k. cases_eq (rank (after g pick k s)) 0) g.size)
      where
        positive : (k : ℕ) → (rank (after g pick k s) ≡ 0 → ⊥) → 0 < rank (after g pick k s)
        positive k ne = omega arith

  -- an outcome that asks for more
  abbrev Unmet : (ℕ → ℕ) → ℕ → ℕ → Type 0
  Unmet rank s i = (g.colour s i ≤ p) × (rank s < due g p rank s i)

  unmet : (rank : ℕ → ℕ) (s i : ℕ) → Unmet rank s i ⊎ (Unmet rank s i → ⊥)
  unmet rank s i =
      ⊎_elim
      (λ (a : p < g.colour s i). inr (λ h. omega (arith, h.0)))
      (λ (a : g.colour s i ≤ p).
      ⊎_elim (λ (b : rank s < due g p rank s i). inl (a, b)) (λ (b : due g p rank s i ≤ rank s). inr (λ h. omega (arith, h.1))) (cases_lt (rank s) (due g p rank s i)))
      (cases_lt p (g.colour s i))

  unmet_at : (rank : ℕ → ℕ) (s : ℕ) → First (Unmet rank s) (g.count s) ⊎ (First (Unmet rank s) (g.count s) → ⊥)
  unmet_at rank s =
      ⊎_elim inl
      (λ (none : (i : ℕ) → i < g.count s → Unmet rank s i → ⊥). inr (λ f. none f.number f.below f.holds))
      (some_or_none (Unmet rank s) (unmet rank s) (g.count s))

  all_met : (rank : ℕ → ℕ) → ((s : ℕ) → s < g.size → First (Unmet rank s) (g.count s) → ⊥) → Keeps g p rank
  all_met rank none s i b k c =
      ⊎_elim
      (λ (f : First (Unmet rank s) (g.count s)). absurd (none s b f))
      (λ (met : (i : ℕ) → i < g.count s → Unmet rank s i → ⊥).
      ⊎_elim (λ (h : rank s < due g p rank s i). absurd (met i k (c, h))) (λ (h : due g p rank s i ≤ rank s). h) (cases_lt (rank s) (due g p rank s i)))
      (some_or_none (Unmet rank s) (unmet rank s) (g.count s))

  decide : (fuel : ℕ) (rank pick : ℕ → ℕ) → Lifted g p rank pick → ((s : ℕ) → s < g.size → rank s < g.size) → slack g.size rank g.size < fuel →
      ((rank : ℕ → ℕ) × Fits rank) ⊎ Loop
  decide zero rank pick up below room = absurd (omega arith)
  decide (suc fuel) rank pick up below room =
      ⊎_elim
      (λ (f : First (λ s. First (Unmet rank s) (g.count s)) g.size).
      let s = f.number in
      let i = f.holds.number in
      let rank' : ℕ → ℕ = put rank s (due g p rank s i) in
      let pick' : ℕ → ℕ = put pick s i in
      let here : rank' s ≡ due g p rank s i = put_same rank s (due g p rank s i) in
      let there : (r : ℕ) → (r ≡ s → ⊥) → rank' r ≡ rank r = put_other rank s (due g p rank s i) in
      let up' : Lifted g p rank' pick' =
      lifted_more g p rank rank' pick pick' closed up s i f.below f.holds.below f.holds.holds.0 f.holds.holds.1 here there (put_same pick s i) (put_other pick s i) in
      ⊎_elim
      (λ (lt : rank' s < g.size).
      decide fuel rank' pick' up'
      (λ r b. ⊎_elim (λ (e : r ≡ s). omega (arith, ap rank' e)) (λ (e : r ≡ s → ⊥). omega (arith, there r e, below r b)) (cases_eq r s))
      (omega (arith, slack_less g.size rank rank' g.size s f.below there (omega (arith, f.holds.holds.1)) (below s f.below))))
      (λ (ge : g.size ≤ rank' s). inr (high_loop rank' pick' up' s f.below ge))
      (cases_lt (rank' s) g.size))
      (λ (none : (s : ℕ) → s < g.size → First (Unmet rank s) (g.count s) → ⊥). inl (rank, (all_met rank none, below)))
      (some_or_none (λ s. First (Unmet rank s) (g.count s)) (unmet_at rank) g.size)

  pub ranks_or_loop : ((rank : ℕ → ℕ) × Keeps g p rank) ⊎ ((loop : List Pair) × Losing g p loop)
  ranks_or_loop =
      ⊎_elim
      (λ (f : (rank : ℕ → ℕ) × Fits rank). inl (f.0, f.1.0))
      inr
      (decide (suc (slack g.size (λ _. 0) g.size)) (λ _. 0) (λ _. 0) (lifted_none g p (λ _. 0) (λ _. 0) (λ s b. refl)) (λ s b. omega arith) (omega arith))
