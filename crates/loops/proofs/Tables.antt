-- Accepted ranks keep the rule along the graph of a table, and ranks that keep it are accepted.
use Rattle.std.proofs.Common.{◌≡◌, ℕ, zero, suc, ◌+◌, ◌*◌, ◌/◌, ◌%◌, ◌<◌, ◌≤◌, Bool, true, false, cond, eqb, ltb, ◌⊎◌, List, [], ◌∷◌, map, length, is_ok, Ok, sym, refl, ◌∙◌, subst, inl, inr, ⊎_elim, arith}
use lib.Arith.{digits_lt, digits_div, digits_mod}
use Rattle.std.specs.List.{range_with_len}
use Rattle.std.proofs.lemmas.Bool.{and_from, eq-eqb, ne_eqb, cases_eq, cond-true, cond-false, both_ways}
use Rattle.std.proofs.lemmas.List.FromFn.{length-map-range_with_len, get_or-map-range_with_len}
use Rattle.arena.specs.Meaning.{Meaning}
use Rattle.table.specs.declared.row.Row.{Row}
use Rattle.table.specs.declared.fault.Fault.{Fault}
use Rattle.table.specs.declared.fault.Fault.TheVariants.{TooManyRows}
use Rattle.table.specs.Ranks.{rank_of, keeps_for, keeps}
use Rattle.table.specs.Check.{when, faults, verdict, outcomes_in, checked}
use Rattle.table.proofs.Lists.{cons_nil, append_nil}
use Rattle.table.proofs.Acceptance.{keeps_falls, falls_keeps, keeps_odd}
use Rattle.loops.specs.declared.pair.Pair.{Pair}
use Rattle.loops.specs.Graph.{Graph, Closed, Losing, NoLoop, Keeps}
use Rattle.loops.specs.Table.{graph_of, any_round, WellFormed, Accepted, Loses, Decided}
use Rattle.loops.proofs.Ranks.{falls, falls_by, none_losing}
use Rattle.loops.proofs.Decides.{ranks_or_loop}
use Rattle.loops.proofs.Arcs.{closed, ruled, largest_small, refault}

-- the ranks keep the rule for every odd colour
abbrev pub KeepsAll : {P : Type 0} → Meaning P → List (Row P) → List ℕ → Type 0
KeepsAll m rows ranks = (p : ℕ) → p % 2 ≡ 1 → p ≤ 7 → Keeps (graph_of m rows) p (rank_of ranks (length rows) p)

module _ {P : Type 0} (m : Meaning P) (rows : List (Row P)) (rule : ℕ → ℕ → ℕ → Bool) (none : faults m rows rule true ≡ []) (ranks : List ℕ) where
  kept_for : KeepsAll m rows ranks → (p s i : ℕ) → p % 2 ≡ 1 → p ≤ 7 → s < length rows → i < (graph_of m rows).count s →
      keeps_for ranks (length rows) p ((graph_of m rows).colour s i) s ((graph_of m rows).to s i) ≡ true
  kept_for keep p s i o h b k =
      let K = keep p o h in
      falls_keeps ranks (length rows) p _ s _ (falls (graph_of m rows) p (rank_of ranks (length rows) p) K s i b k, falls_by (graph_of m rows) p (rank_of ranks (length rows) p) K s i b k)

  kept_all : KeepsAll m rows ranks → (s i : ℕ) → s < length rows → i < (graph_of m rows).count s →
      keeps ranks (length rows) ((graph_of m rows).colour s i) s ((graph_of m rows).to s i) ≡ true
  kept_all keep s i b k =
      let at = λ (p : ℕ) (o : p % 2 ≡ 1) (h : p ≤ 7). kept_for keep p s i o h b k in
      and_from _ _ (at 1 refl (omega arith)) (and_from _ _ (at 3 refl (omega arith)) (and_from _ _ (at 5 refl (omega arith)) (and_from _ _ (at 7 refl (omega arith)) refl)))

  -- ranks that keep the rule are accepted
  pub kept_checked : length ranks ≡ 4 * length rows → KeepsAll m rows ranks → checked m rows ranks ≡ Ok (record { rows = length rows; outcomes = outcomes_in m rows })
  kept_checked four keep =
      let e : faults m rows (keeps ranks (length rows)) true ≡ [] = refault m rows rule none (keeps ranks (length rows)) (kept_all keep) in
      rw (eq-eqb (length ranks) (4 * length rows) four, e)

  -- and then there is no losing loop
  pub kept_no_loop : KeepsAll m rows ranks → (p : ℕ) → NoLoop (graph_of m rows) p
  kept_no_loop keep p loop l =
      none_losing (graph_of m rows) p (rank_of ranks (length rows) p)
      (keep p l.odd (omega (arith, l.top, largest_small m rows rule none loop l.first l.first l.round))) loop l

verdict_nil : {R : Type 0} (r : R) (fs : List Fault) → is_ok (verdict r fs) ≡ true → fs ≡ []
verdict_nil r [] e = refl
verdict_nil r (f ∷ fs) e = absurd (both_ways true (sym e) refl)

module _ {P : Type 0} (m : Meaning P) (rows : List (Row P)) where
  -- without faults the lists have their lengths
  pub fitting : (rule : ℕ → ℕ → ℕ → Bool) (fit : Bool) → faults m rows rule fit ≡ [] → (fit ≡ true) × (faults m rows rule true ≡ [])
  fitting rule true e = (refl, e)
  fitting rule false e = absurd (cons_nil (append_nil (when (ltb 1024 (length rows)) TooManyRows) _ e).1)

  module _ (ranks : List ℕ) (ok : is_ok (checked m rows ranks) ≡ true) where
    rules : faults m rows (keeps ranks (length rows)) true ≡ []
    rules = (fitting (keeps ranks (length rows)) (eqb (length ranks) (4 * length rows)) (verdict_nil _ _ ok)).1

    -- accepted ranks keep the rule
    accepted_keeps : KeepsAll m rows ranks
    accepted_keeps p o h s i b k c =
        let g = graph_of m rows in
        let f = keeps_falls ranks (length rows) p (g.colour s i) s (g.to s i)
        (keeps_odd ranks (length rows) (g.colour s i) s (g.to s i) p (ruled m rows (keeps ranks (length rows)) rules s i b k) o h) in
        ⊎_elim
        (λ (e : g.colour s i ≡ p).
        let q : cond {A = ℕ} (eqb (g.colour s i) p) 1 0 ≡ 1 = rw (eq-eqb (g.colour s i) p e) in
        omega (arith, f.1 e))
        (λ (e : g.colour s i ≡ p → ⊥).
        let q : cond {A = ℕ} (eqb (g.colour s i) p) 1 0 ≡ 0 = rw (ne_eqb (g.colour s i) p e) in
        omega (arith, f.0 c))
        (cases_eq (g.colour s i) p)

    -- so an accepted table has no losing loop
    pub accepted_no_loop : (p : ℕ) → NoLoop (graph_of m rows) p
    accepted_no_loop = kept_no_loop m rows (keeps ranks (length rows)) rules ranks accepted_keeps

-- only the ranks of rows matter
pub keeps_same : (g : Graph) (p : ℕ) (rank rank' : ℕ → ℕ) → Closed g → ((s : ℕ) → s < g.size → rank' s ≡ rank s) → Keeps g p rank → Keeps g p rank'
keeps_same g p rank rank' cl same keep s i b k c =
    omega (arith, same s b, same (g.to s i) (cl s i b k), keep s i b k c)

-- the odd colours by their places
pub by_place : (F : ℕ → Type 0) → ((q : ℕ) → q < 4 → F (2 * q + 1)) → (p : ℕ) → p % 2 ≡ 1 → p ≤ 7 → F p
by_place F h p o b = let e : 2 * (p / 2) + 1 ≡ p = omega arith in subst F e (h (p / 2) (omega arith))

pub place_of : (q : ℕ) → (2 * q + 1) / 2 ≡ q
place_of q = omega arith

module _ {P : Type 0} (m : Meaning P) (rows : List (Row P)) (wf : WellFormed m rows) where
  abbrev g : Graph
  g = graph_of m rows

  -- ranks for the first k odd colours, or a losing loop
  all_or_loop : (k : ℕ) → ((rank : ℕ → ℕ → ℕ) × ((q : ℕ) → q < k → Keeps g (2 * q + 1) (rank q))) ⊎ Loses m rows
  all_or_loop zero = inl ((λ _ _. 0), λ q b. absurd (omega arith))
  all_or_loop (suc k) =
      ⊎_elim
      (λ (f : (rank : ℕ → ℕ → ℕ) × ((q : ℕ) → q < k → Keeps g (2 * q + 1) (rank q))).
      ⊎_elim
      (λ (r : (rank : ℕ → ℕ) × Keeps g (2 * k + 1) rank).
      let rank : ℕ → ℕ → ℕ = λ q. cond (eqb q k) r.0 (f.0 q) in
      inl (
        rank,
        λ q b.
            ⊎_elim
            (λ (e : q ≡ k).
            let F : ℕ → Type 0 = λ x. Keeps g (2 * x + 1) (rank q) in
            subst F (sym e) (rw (cond-true (eqb q k) r.0 (f.0 q) (eq-eqb q k e)) r.1))
            (λ (e : q ≡ k → ⊥). rw (cond-false (eqb q k) r.0 (f.0 q) (ne_eqb q k e)) (f.1 q (omega arith)))
            (cases_eq q k),
      ))
      (λ (l : (loop : List Pair) × Losing g (2 * k + 1) loop). inr (2 * k + 1, l.0, l.1))
      (ranks_or_loop g (2 * k + 1) (closed m rows any_round wf) (omega arith)))
      inr
      (all_or_loop k)

  -- the ranks in one list
  listed : (ℕ → ℕ → ℕ) → List ℕ
  listed rank = map (λ k. rank (k / length rows) (k % length rows)) (range_with_len 0 (4 * length rows))

  listed_is : (rank : ℕ → ℕ → ℕ) (q s : ℕ) → q < 4 → s < length rows → rank_of (listed rank) (length rows) (2 * q + 1) s ≡ rank q s
  unfolding listed
  listed_is rank q s b h =
      let n = length rows in
      let lt : q * n + s < 4 * n = digits_lt b h in
      rw (place_of q)
      (get_or-map-range_with_len (λ k. rank (k / n) (k % n)) 0 (4 * n) (q * n + s) (q * n + s) 0 lt (omega arith)
      ∙ rw (digits_div q h, digits_mod q h))

  listed_keeps : (rank : ℕ → ℕ → ℕ) → ((q : ℕ) → q < 4 → Keeps g (2 * q + 1) (rank q)) → KeepsAll m rows (listed rank)
  listed_keeps rank keep =
      by_place (λ p. Keeps g p (rank_of (listed rank) (length rows) p))
      (λ q b. keeps_same g (2 * q + 1) (rank q) (rank_of (listed rank) (length rows) (2 * q + 1)) (closed m rows any_round wf) (λ s h. listed_is rank q s b h) (keep q b))

  accepted_or_loop : Accepted m rows ⊎ Loses m rows
  unfolding listed
  accepted_or_loop =
      ⊎_elim
      (λ (f : (rank : ℕ → ℕ → ℕ) × ((q : ℕ) → q < 4 → Keeps g (2 * q + 1) (rank q))).
      inl (listed f.0, rw (kept_checked m rows any_round wf (listed f.0) (length-map-range_with_len _ 0 (4 * length rows)) (listed_keeps f.0 f.1))))
      inr
      (all_or_loop 4)

pub decided : {P : Type 0} (m : Meaning P) (rows : List (Row P)) → Decided m rows
decided m rows wf = (accepted_or_loop m rows wf, λ a l. accepted_no_loop m rows a.0 a.1 l.0 l.1 l.2)
