-- What a round by an accepted table does to the ranks, and so to the tallies.
use Rattle.std.proofs.Common.{◌≡◌, ℕ, suc, ◌+◌, ◌%◌, ◌<◌, ◌≤◌, true, false, cond, eqb, leb, List, ◌∷◌, length, take, Some, sym, refl, ap, ◌∙◌, subst, ⊎_elim, arith}
use Rattle.std.specs.List.{slice_get, prefix_len, count_by}
use Rattle.std.proofs.lemmas.List.Sums.{sum_by-cons}
use Rattle.std.proofs.lemmas.Bool.{cases_order, cases_lt, eq-eqb, ne_eqb, lt-ltb, le-ltb, lt-leb, le-leb}
use Rattle.arena.specs.Meaning.{Meaning, Lawful}
use Rattle.arena.specs.declared.moves.Outcome.{Outcome}
use Rattle.table.specs.declared.row.Row.{Row}
use Rattle.table.specs.Colours.{colour_of, latch_after}
use Rattle.table.specs.Rows.{first_row, outcomes_of}
use Rattle.table.specs.Ranks.{rank_of}
use Rattle.table.specs.Accepts.{Accepts}
use Rattle.table.proofs.Finds.{first_stands, first_within, stands_first}
use Rattle.runs.specs.Walk.{tallied}
use Rattle.runs.specs.Counted.{tally_of}
use Rattle.runs.proofs.Counts.{below, below_most, below_mono, below_less}

-- the rule of the ranks for one odd colour, at a round of colour c from row s to row t
abbrev pub Falls : (ℕ → ℕ) → ℕ → ℕ → ℕ → ℕ → Type 0
Falls rk p c s t = (c ≤ p → rk t ≤ rk s) × (c ≡ p → rk t < rk s)

-- a round keeps the tally and the rows of smaller rank together below the number of rows
pub round_bound : (rk : ℕ → ℕ) (n p c s t k : ℕ) → t < n → Falls rk p c s t → k + below rk n s < n → tallied p c k + below rk n t < n
round_bound rk n p c s t k b f h =
    ⊎_elim
    (λ (e : p ≡ c). rw (le-ltb p c (omega arith), eq-eqb p c e) (omega (arith, below_less rk n s t b (f.1 (sym e)))))
    (⊎_elim
    (λ (lt : p < c). rw (lt-ltb p c lt) (omega (arith, below_most rk n t b)))
    (λ (lt : c < p). rw (le-ltb p c (omega arith), ne_eqb p c (omega arith)) (omega (arith, below_mono rk n s t (f.0 (omega arith))))))
    (cases_order p c)

-- one more moment of a run
pub one_more : (rk : ℕ → ℕ) (n p c s t k : ℕ) → t < n → c ≤ p → Falls rk p c s t → k ≤ below rk n t → cond (eqb p c) 1 0 + k ≤ below rk n s
one_more rk n p c s t k b le f h =
    ⊎_elim
    (λ (e : p ≡ c). rw (eq-eqb p c e) (omega (arith, below_less rk n s t b (f.1 (sym e)))))
    (⊎_elim
    (λ (lt : p < c). absurd (omega arith))
    (λ (lt : c < p). rw (ne_eqb p c (omega arith)) (omega (arith, below_mono rk n s t (f.0 le)))))
    (cases_order p c)

-- what a tally counts
pub counts : (p c : ℕ) (past : List ℕ) → tallied p c (tally_of p past) ≡ tally_of p (c ∷ past)
counts p c past =
    let n = prefix_len (λ x. leb x p) past in
    let longer : suc n ≡ 1 + n = omega arith in
    let k = tally_of p past in
    ⊎_elim
    (λ (h : p < c). rw (lt-ltb p c h, lt-leb c p h) refl)
    (λ (h : c ≤ p). rw (le-ltb p c h, le-leb c p h) (
    (elim (eqb p c) as (λ b. cond b (k + 1) k ≡ cond b 1 0 + k) [ true ↦ omega arith | false ↦ omega arith ])
    ∙ sym (sum_by-cons (λ x. cond (eqb p x) 1 0) c (take n past))
    ∙ ap (λ j. count_by (λ x. eqb p x) (take j (c ∷ past))) longer
    ))
    (cases_lt p c)

module _ {P : Type 0} (m : Meaning P) (ok : Lawful m) (rows : List (Row P)) (ranks : List ℕ) (a : Accepts m rows ranks) where
  -- where an outcome of the row of a place leads
  pub record Leads (l s : ℕ) (o : Outcome P) : Type 0 where
    pub to : ℕ
    pub there : first_row m rows o.position (latch_after m l o) ≡ Some to
    pub within : to < length rows
    pub falls : (p : ℕ) → p % 2 ≡ 1 → p ≤ 7 → Falls (rank_of ranks (length rows) p) p (colour_of l o) s to

  pub leads_on : (q : P) (l s i : ℕ) (r : Row P) (o : Outcome P) → first_row m rows q l ≡ Some s → slice_get rows s ≡ Some r → slice_get (outcomes_of m r) i ≡ Some o → Leads l s o
  leads_on q l s i r o e there h =
      let x = first_stands m q l ok rows s e in
      let same : r.latch ≡ l = latch_is x.row (some_row (sym x.there ∙ there)) x.latch in
      let F : ℕ → Type 0 = λ l. Leads l s o in
      subst F same (from_row s i r o there h)
    where
      some_row : {y z : Row P} → Some y ≡ Some z → y ≡ z
      some_row e = cc

      latch_is : (y : Row P) → y ≡ r → y.latch ≡ l → r.latch ≡ l
      latch_is y e f = cc

      from_row : (s i : ℕ) (r : Row P) (o : Outcome P) → slice_get rows s ≡ Some r → slice_get (outcomes_of m r) i ≡ Some o → Leads r.latch s o
      from_row s i r o there h =
          let y = a.leads s i r o there h in
          let f = stands_first m o.position (latch_after m r.latch o) ok rows y.0 y.1 in
          let z = first_stands m o.position (latch_after m r.latch o) ok rows f.0 f.1 in
          record {
            to = f.0;
            there = f.1;
            within = first_within m o.position (latch_after m r.latch o) rows f.0 f.1;
            falls = λ p od b. a.falls s i f.0 p r o there h z od b;
          }
