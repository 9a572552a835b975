-- The arcs noted from all passages of a well-formed table tell of its graph.
use Rattle.std.proofs.Common.{◌≡◌, ℕ, zero, suc, ◌+◌, ◌<◌, List, [], ◌∷◌, length, get_or, Some, None, Option, refl, subst, ⊎_elim, arith}
use Rattle.std.specs.List.{slice_get, ContainsAt}
use Rattle.std.proofs.ByRecursion.{has_append_left, has_append_right, has_append_cases}
use Rattle.std.proofs.lemmas.Option.{none-some, same_Some, slice_get_within}
use Rattle.arena.specs.Meaning.{Meaning}
use Rattle.arena.specs.declared.moves.Outcome.{Outcome}
use Rattle.table.specs.declared.row.Row.{Row}
use Rattle.table.specs.Colours.{colour_of}
use Rattle.table.specs.Rows.{row_after, outcomes_of}
use Rattle.table.specs.Check.{numbered}
use Rattle.plan.specs.declared.passage.Passage.{Passage}
use Rattle.plan.specs.Passages.{passage_to, passage_at, passages_at, passages_in}
use Rattle.loops.specs.Table.{graph_of, any_round, WellFormed}
use Rattle.loops.proofs.Arcs.{arc, arc_to, arc_colour, count_at, closed}
use Rattle.ranker.specs.Arcs.{arc_at, Tells}
use Rattle.ranker.specs.Notes.{Noted}
use Rattle.ranker.proofs.Orders.{has_first}

module _ {X Y : Type 0} (f : ℕ → X → List Y) where
  -- what is in a numbered list comes from one of its numbers, and back
  numbered_has : (n : ℕ) (xs : List X) (y : Y) → ContainsAt (numbered f n xs) y → (k : ℕ) × (x : X) × (slice_get xs k ≡ Some x) × ContainsAt (f (n + k) x) y
  numbered_has n [] y h = absurd (omega (arith, h.1))
  numbered_has n (x ∷ xs) y h =
      ⊎_elim
      (λ (a : ContainsAt (f n x) y). (0, x, refl, (let e : n + 0 ≡ n = omega arith in rw e a)))
      (λ (a : ContainsAt (numbered f (suc n) xs) y).
      let r = numbered_has (suc n) xs y a in
      (suc r.0, r.1, r.2, (let e : n + suc r.0 ≡ suc n + r.0 = omega arith in rw e r.3)))
      (has_append_cases (f n x) (numbered f (suc n) xs) y h)

  has_numbered : (n : ℕ) (xs : List X) (y : Y) (k j : ℕ) (x : X) → n + k ≡ j → slice_get xs k ≡ Some x → ContainsAt (f j x) y → ContainsAt (numbered f n xs) y
  has_numbered n [] y k j x e q h = absurd (none-some _ q)
  has_numbered n (z ∷ xs) y zero j x e q h =
      has_append_left (f n z) (numbered f (suc n) xs) y
      (let i : n ≡ j = omega arith in let F : ℕ → X → Type 0 = λ a b. ContainsAt (f a b) y in rw (i, same_Some _ _ q) h)
  has_numbered n (z ∷ xs) y (suc k) j x e q h =
      has_append_right (f n z) (numbered f (suc n) xs) y (has_numbered (suc n) xs y k j x (omega arith) q h)

-- an outcome's passage, told by its row
to_has : (s i c : ℕ) (o : Option ℕ) (x : Passage) → ContainsAt (passage_to s i c o) x → (t : ℕ) × (o ≡ Some t) × (record { from = s; outcome = i; colour = c; to = t } ≡ x)
to_has s i c None x h = absurd (omega (arith, h.1))
to_has s i c (Some t) x h =
    let k : h.0 ≡ 0 = omega (arith, h.1) in
    let F : ℕ → Type 0 = λ j. (d : Passage) → get_or (passage_to s i c (Some t)) j d ≡ x in
    (t, refl, subst F k h.2 x)

module _ {P : Type 0} (m : Meaning P) (rows : List (Row P)) where
  -- a passage is an outcome of the graph
  pub record Told (x : Passage) : Type 0 where
    pub from : x.from < length rows
    pub outcome : x.outcome < (graph_of m rows).count x.from
    pub colour : x.colour ≡ (graph_of m rows).colour x.from x.outcome
    pub to : x.to ≡ (graph_of m rows).to x.from x.outcome

  told_of : (s i t : ℕ) (r : Row P) (o : Outcome P) → slice_get rows s ≡ Some r → slice_get (outcomes_of m r) i ≡ Some o → row_after m rows r.latch o ≡ Some t →
      Told (record { from = s; outcome = i; colour = colour_of r.latch o; to = t })
  told_of s i t r o here gives leads =
      record {
        from = slice_get_within rows s r here;
        outcome = rw (count_at m rows any_round s r here) (slice_get_within (outcomes_of m r) i o gives);
        colour = rw (here, gives);
        to = rw (here, gives, leads);
      }

  told : (x : Passage) → ContainsAt (passages_in m rows) x → Told x
  told x h =
      let a = numbered_has (passages_at m rows) 0 rows x h in
      let s = 0 + a.0 in
      let r = a.1 in
      let b = numbered_has (passage_at m rows s r.latch) 0 (outcomes_of m r) x a.3 in
      let o = b.1 in
      let c = to_has s (0 + b.0) (colour_of r.latch o) (row_after m rows r.latch o) x b.3 in
      let N : ℕ → Type 0 = λ k. slice_get rows k ≡ Some r in
      let O : ℕ → Type 0 = λ k. slice_get (outcomes_of m r) k ≡ Some o in
      subst Told c.2
      (told_of s (0 + b.0) c.0 r o (subst N (let e : a.0 ≡ s = omega arith in e) a.2) (subst O (let e : b.0 ≡ 0 + b.0 = omega arith in e) b.2) c.1)

  -- and each outcome of the graph has its passage
  passed : WellFormed m rows → (s i : ℕ) → s < length rows → i < (graph_of m rows).count s →
      ContainsAt (passages_in m rows) (record { from = s; outcome = i; colour = (graph_of m rows).colour s i; to = (graph_of m rows).to s i })
  passed wf s i b k =
      let a = arc m rows any_round wf s i b k in
      let x : Passage = record { from = s; outcome = i; colour = (graph_of m rows).colour s i; to = (graph_of m rows).to s i } in
      let one : ContainsAt (passage_at m rows s a.row.latch i a.outcome) x =
      rw (a.leads, arc_to m rows any_round s i a, arc_colour m rows any_round s i a) (has_first (record { from = s; outcome = i; colour = colour_of a.row.latch a.outcome; to = a.target }) []) in
      has_numbered (passages_at m rows) 0 rows x s s a.row (omega arith) a.there
      (has_numbered (passage_at m rows s a.row.latch) 0 (outcomes_of m a.row) x i i a.outcome (omega arith) a.gives one)

  pub noted_tells : WellFormed m rows → (arcs : List Passage) (stamps : List (Option ℕ)) → Noted (length rows) (passages_in m rows) arcs stamps → Tells (length rows) arcs (graph_of m rows)
  noted_tells wf arcs stamps noted =
      record {
        size = refl;
        closed = closed m rows any_round wf;
        true = λ k b. let x = told (arc_at arcs k) (noted.true k b) in record { row = x.from; outcome = x.outcome; colour = x.colour; to = x.to };
        whole = λ s i b k.
            let w = noted.whole _ (passed wf s i b k) in
            (w.0, record { there = w.1.there; row = w.1.row; colour = w.1.colour; to = w.1.to });
      }
