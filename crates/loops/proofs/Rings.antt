-- Rings of picked outcomes: after as many steps as there are rows one stands on such a ring, and it is a losing loop.
use Rattle.std.proofs.Common.{◌≡◌, ℕ, zero, suc, ◌+◌, ◌-◌, ◌%◌, ◌<◌, ◌≤◌, cond, eqb, ◌≢◌, ◌⊎◌, List, [], ◌∷◌, ◌++◌, length, sym, refl, ap, ◌∙◌, subst, inl, inr, ⊎_elim, arith}
use Rattle.std.specs.List.{AllByRecursion}
use Rattle.std.proofs.lemmas.Bool.{cases_eq, cases_lt, eq-eqb, ne_eqb, cond-true, cond-false}
use Rattle.loops.specs.declared.pair.Pair.{Pair}
use Rattle.loops.specs.Graph.{Graph, Closed, Leads, largest, Simple, Losing}
use Rattle.loops.specs.Lifting.{Lifted, after, way, OnRing}
use Rattle.loops.proofs.Firsts.{First, some_or_none}

-- of n + 1 numbers below n two are the same

Twice : ℕ → (ℕ → ℕ) → Type 0
Twice n f = (i : ℕ) × (j : ℕ) × (i < j) × (j ≤ n) × (f i ≡ f j)

-- the number n stands no more: where it came, the last one comes instead
without : ℕ → (ℕ → ℕ) → ℕ → ℕ
without n f i = cond (eqb (f i) n) (f (suc n)) (f i)

without_yes : (n : ℕ) (f : ℕ → ℕ) (i : ℕ) → f i ≡ n → without n f i ≡ f (suc n)
unfolding without
without_yes n f i e = cond-true _ _ _ (eq-eqb (f i) n e)

without_no : (n : ℕ) (f : ℕ → ℕ) (i : ℕ) → (f i ≡ n → ⊥) → without n f i ≡ f i
unfolding without
without_no n f i e = cond-false _ _ _ (ne_eqb (f i) n e)

module _ (n : ℕ) (f : ℕ → ℕ) (apart : (i : ℕ) → i < suc n → f i ≡ f (suc n) → ⊥) where
  without_below : ((i : ℕ) → i ≤ suc n → f i < suc n) → (i : ℕ) → i ≤ n → without n f i < n
  without_below below i b =
      ⊎_elim
      (λ (e : f i ≡ n).
      omega (arith, without_yes n f i e, below (suc n) (omega arith), apart i (omega arith)))
      (λ (e : f i ≡ n → ⊥). omega (arith, without_no n f i e, below i (omega arith)))
      (cases_eq (f i) n)

  without_same : (i j : ℕ) → i ≤ n → j ≤ n → without n f i ≡ without n f j → f i ≡ f j
  without_same i j a b e =
      ⊎_elim
      (λ (x : f i ≡ n).
      ⊎_elim
      (λ (y : f j ≡ n). x ∙ sym y)
      (λ (y : f j ≡ n → ⊥). absurd (apart j (omega arith) (sym (without_no n f j y) ∙ sym e ∙ without_yes n f i x)))
      (cases_eq (f j) n))
      (λ (x : f i ≡ n → ⊥).
      ⊎_elim
      (λ (y : f j ≡ n). absurd (apart i (omega arith) (sym (without_no n f i x) ∙ e ∙ without_yes n f j y)))
      (λ (y : f j ≡ n → ⊥). sym (without_no n f i x) ∙ e ∙ without_no n f j y)
      (cases_eq (f j) n))
      (cases_eq (f i) n)

twice : (n : ℕ) (f : ℕ → ℕ) → ((i : ℕ) → i ≤ n → f i < n) → Twice n f
unfolding Twice
twice zero f below = absurd (omega (arith, below 0 (omega arith)))
twice (suc n) f below =
    ⊎_elim
    (λ (h : First (λ i. f i ≡ f (suc n)) (suc n)). (h.number, suc n, h.below, omega arith, h.holds))
    (λ (apart : (i : ℕ) → i < suc n → f i ≡ f (suc n) → ⊥).
    let t : Twice n (without n f) = twice n (without n f) (without_below n f apart below) in
    (t.0, t.1, t.2, omega (arith, t.3), without_same n f apart t.0 t.1 (omega (arith, t.2, t.3)) t.3 t.4))
    (some_or_none (λ i. f i ≡ f (suc n)) (λ i. cases_eq (f i) (f (suc n))) (suc n))

-- one step after another

module _ (g : Graph) (pick : ℕ → ℕ) where
  pub after_add : (j k n s : ℕ) → j + k ≡ n → after g pick n s ≡ after g pick k (after g pick j s)
  after_add zero k n s e = ap (λ x. after g pick x s) (let q : n ≡ k = omega arith in q)
  after_add (suc j) k zero s e = absurd (omega arith)
  after_add (suc j) k (suc n) s e = after_add j k n (g.to s (pick s)) (omega arith)

  pub after_more : (k s : ℕ) → after g pick (k + 1) s ≡ g.to (after g pick k s) (pick (after g pick k s))
  after_more k s = after_add k 1 (k + 1) s refl

  pub way_more : (k s : ℕ) → way g pick (k + 1) s ≡ way g pick k s ++ record { row = after g pick k s; outcome = pick (after g pick k s) } ∷ []
  way_more zero s = refl
  way_more (suc k) s =
      let e : suc k + 1 ≡ suc (k + 1) = omega arith in
      rw e (ap (λ (es : List Pair). record { row = s; outcome = pick s } ∷ es) (way_more k (g.to s (pick s))))

  pub length_way : (k s : ℕ) → length (way g pick k s) ≡ k
  length_way zero s = refl
  length_way (suc k) s = ap suc (length_way k (g.to s (pick s)))

  -- if no step comes to row x, neither does the way
  absent : (k s x : ℕ) → ((j : ℕ) → j < k → after g pick j s ≢ x) → AllByRecursion (λ f. f.row ≢ x) (way g pick k s)
  absent zero s x h = tt
  absent (suc k) s x h = (h 0 (omega arith), absent k (g.to s (pick s)) x (λ j b. h (suc j) (omega arith)))

  simple : (k s : ℕ) → ((i j : ℕ) → i < j → j < k → after g pick i s ≡ after g pick j s → ⊥) → Simple (way g pick k s)
  simple zero s h = tt
  simple (suc k) s h = (
    absent k (g.to s (pick s)) s (λ j b e. h 0 (suc j) (omega arith) (omega arith) (sym e)),
    simple k (g.to s (pick s)) (λ i j a b. h (suc i) (suc j) (omega arith) (omega arith)),
  )

  -- a way that comes back to its start for the first time at its end has no row twice
  pub first_back : (k s : ℕ) → after g pick k s ≡ s → ((j : ℕ) → 0 < j → j < k → after g pick j s ≡ s → ⊥) → Simple (way g pick k s)
  first_back k s back first =
      simple k s (λ i j a b e.
      first (i + (k - j)) (omega arith) (omega arith)
      (after_add i (k - j) (i + (k - j)) s refl
      ∙ ap (after g pick (k - j)) e
      ∙ sym (after_add j (k - j) k s (omega arith))
      ∙ back))

-- each row with a rank above 0 has a picked outcome
abbrev pub Picks : Graph → (ℕ → ℕ) → (ℕ → ℕ) → Type 0
Picks g rank pick = (s : ℕ) → s < g.size → 0 < rank s → pick s < g.count s

pub lifted_picks : (g : Graph) (p : ℕ) (rank pick : ℕ → ℕ) → Lifted g p rank pick → Picks g rank pick
lifted_picks g p rank pick up s b h = (up.stands s b h).there

-- picked outcomes lead on from row to row

module _ (g : Graph) (rank pick : ℕ → ℕ) (closed : Closed g) (picks : Picks g rank pick) where
  goes_on : (s : ℕ) → s < g.size → 0 < rank s → g.to s (pick s) < g.size
  goes_on s b h = closed s (pick s) b (picks s b h)

  within : (k s : ℕ) → s < g.size → ((j : ℕ) → j < k → 0 < rank (after g pick j s)) → after g pick k s < g.size
  within zero s b h = b
  within (suc k) s b h = within k (g.to s (pick s)) (goes_on s b (h 0 (omega arith))) (λ j c. h (suc j) (omega arith))

  -- after as many steps as there are rows, with all ranks above 0 so far, one stands on a ring
  module _ (s : ℕ) (b : s < g.size) (h : (j : ℕ) → j < g.size → 0 < rank (after g pick j s)) where
    twin : Twice g.size (λ k. after g pick k s)
    twin = twice g.size (λ k. after g pick k s) (λ k c. within k s b (λ j d. h j (omega arith)))

    -- what comes later came before
    came : (i j k : ℕ) → i < j → after g pick i s ≡ after g pick j s → j ≤ k → after g pick k s ≡ after g pick (k - (j - i)) s
    came i j k a e c =
        after_add g pick j (k - j) k s (omega arith)
        ∙ ap (after g pick (k - j)) (sym e)
        ∙ sym (after_add g pick i (k - j) (k - (j - i)) s (omega arith))

    always_by : (n k : ℕ) → k ≤ n → 0 < rank (after g pick k s)
    unfolding Twice
    always_by zero k c = h k (omega arith)
    always_by (suc n) k c =
        ⊎_elim
        (λ (d : k < g.size). h k d)
        (λ (d : g.size ≤ k).
        let t : Twice g.size (λ k. after g pick k s) = twin in
        let q = came t.0 t.1 k t.2 t.4 (omega (arith, t.3)) in
        let R : ℕ → Type 0 = λ x. 0 < rank x in
        subst R (sym q) (always_by n (k - (t.1 - t.0)) (omega (arith, t.2, t.3))))
        (cases_lt k g.size)

    pub on_ring : OnRing g rank pick g.size (after g pick g.size s)
    unfolding Twice
    on_ring =
        let t : Twice g.size (λ k. after g pick k s) = twin in
        let n = g.size in
        let d = t.1 - t.0 in
        let R : ℕ → Type 0 = λ x. 0 < rank x in
        let S : ℕ → Type 0 = λ x. x < g.size in
        record {
          within = λ k. subst S (after_add g pick n k (n + k) s refl) (within (n + k) s b (λ j _. always_by j j (omega arith)));
          lifted = λ k. subst R (after_add g pick n k (n + k) s refl) (always_by (n + k) (n + k) (omega arith));
          length = d;
          some = omega (arith, t.2);
          few = omega (arith, t.3);
          back =
              sym (after_add g pick n d (n + d) s refl)
              ∙ came t.0 t.1 (n + d) t.2 t.4 (omega (arith, t.3))
              ∙ ap (λ k. after g pick k s) (let q : n + d - (t.1 - t.0) ≡ n = omega (arith, t.2) in q);
        }

  leads_way : (k s : ℕ) → s < g.size → ((j : ℕ) → j < k → 0 < rank (after g pick j s)) → Leads g s (way g pick k s) (after g pick k s)
  leads_way zero s b h = refl
  leads_way (suc k) s b h = (
    refl,
    b,
    picks s b (h 0 (omega arith)),
    leads_way k (g.to s (pick s)) (goes_on s b (h 0 (omega arith))) (λ j c. h (suc j) (omega arith)),
  )

  -- a ring is a losing loop of its largest colour, if that is odd
  pub ring_loses : (p n k s : ℕ) → p % 2 ≡ 1 → OnRing g rank pick n s → after g pick (suc k) s ≡ s →
      ((j : ℕ) → 0 < j → j < suc k → after g pick j s ≡ s → ⊥) → largest g (way g pick (suc k) s) ≡ p → Losing g p (way g pick (suc k) s)
  ring_loses p n k s odd ring back first top =
      let F : ℕ → Type 0 = λ t. Leads g s (way g pick (suc k) s) t in
      record {
        first = s;
        round = subst F back (leads_way (suc k) s (ring.within 0) (λ j _. ring.lifted j));
        simple = first_back g pick (suc k) s back first;
        top = top;
        odd = odd;
      }

-- the ranks stand by them

module _ (g : Graph) (p : ℕ) (rank pick : ℕ → ℕ) (closed : Closed g) (up : Lifted g p rank pick) where
  abbrev onward : (s : ℕ) → s < g.size → 0 < rank s → g.to s (pick s) < g.size
  onward = goes_on g rank pick closed (lifted_picks g p rank pick up)

  -- each step costs at most one
  pub most_steps : (k s : ℕ) → s < g.size → ((j : ℕ) → j < k → 0 < rank (after g pick j s)) → rank s ≤ rank (after g pick k s) + k
  most_steps zero s b h = omega arith
  most_steps (suc k) s b h =
      let x = up.stands s b (h 0 (omega arith)) in
      let y = most_steps k (g.to s (pick s)) (onward s b (h 0 (omega arith))) (λ j c. h (suc j) (omega arith)) in
      let z : cond {A = ℕ} (eqb (g.colour s (pick s)) p) 1 0 ≤ 1 = one (g.colour s (pick s)) in
      omega (arith, x.most)
    where
      one : (c : ℕ) → cond {A = ℕ} (eqb c p) 1 0 ≤ 1
      one c = ⊎_elim (λ (e : c ≡ p). rw (eq-eqb c p e) (omega arith)) (λ (e : c ≡ p → ⊥). rw (ne_eqb c p e) (omega arith)) (cases_eq c p)

  -- along other colours than p the rank does not fall, and if it stays, the moment lies before
  Later : ℕ → ℕ → Type 0
  Later s t = (rank s ≤ rank t) × (rank s ≡ rank t → up.since t < up.since s)

  later_trans : (s t u : ℕ) → Later s t → Later t u → Later s u
  unfolding Later
  later_trans s t u a c = (omega (arith, a.0, c.0), λ e. omega (arith, a.0, c.0, a.1 (omega (arith, a.0, c.0)), c.1 (omega (arith, a.0, c.0))))

  step_later : (s : ℕ) → s < g.size → 0 < rank s → (g.colour s (pick s) ≡ p → ⊥) → Later s (g.to s (pick s))
  unfolding Later
  step_later s b h ne =
      let x = up.stands s b h in
      let q : cond {A = ℕ} (eqb (g.colour s (pick s)) p) 1 0 ≡ 0 = rw (ne_eqb (g.colour s (pick s)) p ne) in
      (omega (arith, x.most), λ e. x.before (omega arith))

  small_way : (k s : ℕ) → s < g.size → ((j : ℕ) → j < k → 0 < rank (after g pick j s)) → largest g (way g pick k s) ≤ p
  small_way zero s b h = omega arith
  small_way (suc k) s b h =
      omega (arith, (up.stands s b (h 0 (omega arith))).small, small_way k (g.to s (pick s)) (onward s b (h 0 (omega arith))) (λ j c. h (suc j) (omega arith)))

  -- a way of some steps has the largest colour p, or its end is later
  top_or_later : (k s : ℕ) → s < g.size → ((j : ℕ) → j < suc k → 0 < rank (after g pick j s)) →
      (largest g (way g pick (suc k) s) ≡ p) ⊎ Later s (after g pick (suc k) s)
  top_or_later zero s b h =
      ⊎_elim
      (λ (e : g.colour s (pick s) ≡ p). inl (omega (arith, small_way 1 s b h)))
      (λ (ne : g.colour s (pick s) ≡ p → ⊥). inr (step_later s b (h 0 (omega arith)) ne))
      (cases_eq (g.colour s (pick s)) p)
  top_or_later (suc k) s b h =
      let t = g.to s (pick s) in
      let small = small_way (suc (suc k)) s b h in
      ⊎_elim
      (λ (e : g.colour s (pick s) ≡ p). inl (omega arith))
      (λ (ne : g.colour s (pick s) ≡ p → ⊥).
      ⊎_elim
      (λ (e : largest g (way g pick (suc k) t) ≡ p). inl (omega arith))
      (λ (y : Later t (after g pick (suc k) t)). inr (later_trans s t _ (step_later s b (h 0 (omega arith)) ne) y))
      (top_or_later k t (onward s b (h 0 (omega arith))) (λ j c. h (suc j) (omega arith))))
      (cases_eq (g.colour s (pick s)) p)

  -- so the largest colour of a ring is p
  pub ring_top : (n k s : ℕ) → OnRing g rank pick n s → after g pick (suc k) s ≡ s → largest g (way g pick (suc k) s) ≡ p
  unfolding Later
  ring_top n k s ring back =
      ⊎_elim
      (λ (e : largest g (way g pick (suc k) s) ≡ p). e)
      (λ (l : Later s (after g pick (suc k) s)). absurd (omega (arith, l.1 (sym (ap rank back)), ap up.since back)))
      (top_or_later k s (ring.within 0) (λ j _. ring.lifted j))
