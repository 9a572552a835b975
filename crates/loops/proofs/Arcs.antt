-- What stands behind the graph of a table.
use Rattle.std.proofs.Common.{◌≡◌, ℕ, zero, suc, ◌<◌, ◌≤◌, Bool, true, not, ltb, List, [], ◌∷◌, length, Some, None, Option, refl, ap, arith}
use Rattle.std.specs.List.{slice_get}
use Rattle.std.proofs.lemmas.Bool.{not-false, ltb-false}
use Rattle.std.proofs.lemmas.Option.{slice_get_within}
use Rattle.arena.specs.Meaning.{Meaning}
use Rattle.arena.specs.declared.moves.Outcome.{Outcome}
use Rattle.table.specs.declared.row.Row.{Row}
use Rattle.table.specs.declared.fault.Fault.TheVariants.{TooManyRows, IllegalMove}
use Rattle.table.specs.Colours.{colour_of}
use Rattle.table.specs.Rows.{row_after, outcomes_of}
use Rattle.table.specs.Check.{when, numbered, place_faults, start_faults, target_faults, outcome_faults, move_faults, faults}
use Rattle.table.proofs.Lists.{cons_nil, append_nil, when_nil, numbered_nil, numbered_all}
use Rattle.table.proofs.Bounds.{small_colour, small_latch}
use Rattle.table.proofs.Finds.{first_within}
use Rattle.loops.specs.declared.pair.Pair.{Pair}
use Rattle.loops.specs.Graph.{Closed, Leads, largest}
use Rattle.loops.specs.Table.{graph_of}

nth_there : {A : Type 0} (xs : List A) (k : ℕ) → k < length xs → (x : A) × (slice_get xs k ≡ Some x)
nth_there [] k b = absurd (omega arith)
nth_there (x ∷ xs) zero b = (x, refl)
nth_there (x ∷ xs) (suc k) b = nth_there xs k (omega arith)

-- a table without faults, by its parts
record Clean {P : Type 0} (m : Meaning P) (rows : List (Row P)) (rule : ℕ → ℕ → ℕ → Bool) : Type 0 where
  few : length rows ≤ 1024
  places : numbered (place_faults m rows) 0 rows ≡ []
  first : start_faults m rows ≡ []
  moves : numbered (move_faults m rows rule) 0 rows ≡ []

clean : {P : Type 0} (m : Meaning P) (rows : List (Row P)) (rule : ℕ → ℕ → ℕ → Bool) → faults m rows rule true ≡ [] → Clean m rows rule
clean m rows rule e =
    let a = append_nil (when (ltb 1024 (length rows)) TooManyRows) _ e in
    let c = append_nil (numbered (place_faults m rows) 0 rows) _ a.1 in
    let d = append_nil (start_faults m rows) _ c.1 in
    record { few = ltb-false _ _ (when_nil _ _ a.0); places = c.0; first = d.0; moves = d.1 }

module _ {P : Type 0} (m : Meaning P) (rows : List (Row P)) (rule : ℕ → ℕ → ℕ → Bool) where
  -- outcome i of row s
  pub record Arc (s i : ℕ) : Type 0 where
    pub row : Row P
    pub outcome : Outcome P
    pub target : ℕ
    pub there : slice_get rows s ≡ Some row
    pub gives : slice_get (outcomes_of m row) i ≡ Some outcome
    pub leads : row_after m rows row.latch outcome ≡ Some target
    pub ruled : rule (colour_of row.latch outcome) s target ≡ true

  pub arc_to : (s i : ℕ) (a : Arc s i) → (graph_of m rows).to s i ≡ a.target
  arc_to s i a = rw (a.there, a.gives, a.leads)

  pub arc_colour : (s i : ℕ) (a : Arc s i) → (graph_of m rows).colour s i ≡ colour_of a.row.latch a.outcome
  arc_colour s i a = rw (a.there, a.gives)

  pub count_at : (s : ℕ) (r : Row P) → slice_get rows s ≡ Some r → (graph_of m rows).count s ≡ length (outcomes_of m r)
  count_at s r e = rw e

  target : (c s i : ℕ) (o : Option ℕ) → target_faults m rows rule c s i o ≡ [] → (t : ℕ) × (o ≡ Some t) × (rule c s t ≡ true)
  target c s i None e = absurd (cons_nil e)
  target c s i (Some t) e = (t, refl, not-false _ (when_nil _ _ e))

  module _ (none : faults m rows rule true ≡ []) where
    legal_here : (s : ℕ) (r : Row P) → slice_get rows s ≡ Some r → (m.legal r.position r.choice ≡ true)
        × (numbered (outcome_faults m rows rule s r.latch) 0 (outcomes_of m r) ≡ [])
    legal_here s r e =
        let q = append_nil (when (not (m.legal r.position r.choice)) (IllegalMove s)) _
        (numbered_nil (move_faults m rows rule) rows (clean m rows rule none).moves s r e) in
        (not-false _ (when_nil _ _ q.0), q.1)

    arc_of_lem : (s i : ℕ) (r : Row P) (o : Outcome P) → slice_get rows s ≡ Some r → slice_get (outcomes_of m r) i ≡ Some o → Arc s i
    arc_of_lem s i r o e h =
        let t = target (colour_of r.latch o) s i (row_after m rows r.latch o)
        (numbered_nil (outcome_faults m rows rule s r.latch) (outcomes_of m r) (legal_here s r e).1 i o h) in
        record { row = r; outcome = o; target = t.0; there = e; gives = h; leads = t.1; ruled = t.2 }

    pub arc : (s i : ℕ) → s < length rows → i < (graph_of m rows).count s → Arc s i
    arc s i b k =
        let r = nth_there rows s b in
        let o = nth_there (outcomes_of m r.0) i (omega (arith, count_at s r.0 r.1)) in
        arc_of_lem s i r.0 o.0 r.1 o.1

    pub few_rows : length rows ≤ 1024
    few_rows = (clean m rows rule none).few

    pub closed : Closed (graph_of m rows)
    closed s i b k =
        let a = arc s i b k in
        omega (arith, arc_to s i a, first_within m _ _ rows a.target a.leads)

    pub ruled : (s i : ℕ) → s < length rows → i < (graph_of m rows).count s → rule ((graph_of m rows).colour s i) s ((graph_of m rows).to s i) ≡ true
    ruled s i b k = let a = arc s i b k in rw (arc_to s i a, arc_colour s i a) a.ruled

    small : (s i : ℕ) → s < length rows → i < (graph_of m rows).count s → (graph_of m rows).colour s i ≤ 7
    small s i b k =
        let a = arc s i b k in
        let l = small_latch m rows (clean m rows rule none).places s a.row a.there in
        omega (arith, arc_colour s i a, small_colour a.row.latch a.outcome l)

    -- no loop has a larger colour than 7
    pub largest_small : (es : List Pair) (s t : ℕ) → Leads (graph_of m rows) s es t → largest (graph_of m rows) es ≤ 7
    largest_small [] s t l = omega arith
    largest_small (e ∷ es) s t l =
        omega (arith, largest_small es ((graph_of m rows).to s e.outcome) t l.3, small s e.outcome l.1 l.2, ap (λ r. (graph_of m rows).colour r e.outcome) l.0)

    -- nor are there faults under another rule that every outcome keeps
    module _ (rule' : ℕ → ℕ → ℕ → Bool) (kept : (s i : ℕ) → s < length rows → i < (graph_of m rows).count s → rule' ((graph_of m rows).colour s i) s ((graph_of m rows).to s i) ≡ true) where
      no_outcome : (s : ℕ) (r : Row P) → slice_get rows s ≡ Some r → (i : ℕ) (o : Outcome P) → slice_get (outcomes_of m r) i ≡ Some o → outcome_faults m rows rule' s r.latch i o ≡ []
      unfolding arc_of_lem
      no_outcome s r e i o h =
          let a = arc_of_lem s i r o e h in
          let k = kept s i (slice_get_within rows s r e) (omega (arith, count_at s r e, slice_get_within (outcomes_of m r) i o h)) in
          let q : rule' (colour_of r.latch o) s a.target ≡ true = rw (arc_to s i a, arc_colour s i a) at k in
          rw (a.leads, q)

      no_move : (s : ℕ) (r : Row P) → slice_get rows s ≡ Some r → move_faults m rows rule' s r ≡ []
      no_move s r e =
          rw ((legal_here s r e).0, numbered_all (outcome_faults m rows rule' s r.latch) (outcomes_of m r) (no_outcome s r e))

      pub refault : faults m rows rule' true ≡ []
      refault =
          let a = append_nil (when (ltb 1024 (length rows)) TooManyRows) _ none in
          let c = clean m rows rule none in
          rw (a.0, c.places, c.first, numbered_all (move_faults m rows rule') rows no_move)
