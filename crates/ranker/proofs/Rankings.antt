-- What the ranker's parts come to.
use Rattle.std.proofs.Common.{◌≡◌, ℕ, ◌*◌, ◌%◌, ◌^◌, ◌≤◌, true, false, eqb, leb, List, [], length, is_ok, Ok, Err, IsTrue, ◌↔◌, Result, Option, sym, refl, ap, ◌∙◌, subst, inl, inr}
use Rattle.std.proofs.lemmas.Bool.{and_parts, eqb-true, leb-true, both_ways}
use Rattle.arena.specs.Meaning.{Meaning}
use Rattle.table.specs.declared.row.Row.{Row}
use Rattle.table.specs.declared.accepted.Accepted.{Accepted}
use Rattle.table.specs.declared.fault.Fault.{Fault}
use Rattle.table.specs.Odd.{odd}
use Rattle.table.specs.Ranks.{rank_of}
use Rattle.table.specs.Check.{judged, outcomes_in}
use Rattle.table.proofs.Lists.{verdict_ok}
use Rattle.plan.specs.declared.passage.Passage.{Passage}
use Rattle.plan.specs.Passages.{passages_in}
use Rattle.loops.specs.declared.pair.Pair.{Pair}
use Rattle.loops.specs.Table.{graph_of, any_round, WellFormed}
use Rattle.loops.proofs.Arcs.{few_rows}
use Rattle.loops.proofs.Tables.{KeepsAll, fitting, kept_checked, kept_no_loop}
use Rattle.ranker.specs.Arcs.{Tells}
use Rattle.ranker.specs.Lifts.{Smallest}
use Rattle.ranker.specs.Notes.{Noted}
use Rattle.ranker.specs.Loops.{Drafted}
use Rattle.ranker.specs.Ranked.{form_faults, Fills, Refutes, Ranked, Sound}
use Rattle.ranker.specs.Ranked as ranked
use Rattle.ranker.proofs.Noting.{noted_few}
use Rattle.ranker.proofs.Telling.{noted_tells}
use Rattle.ranker.proofs.Stretches.{odd_of}

module _ {P : Type 0} (m : Meaning P) (rows : List (Row P)) (ranks : List ℕ) (losing : List Pair) (a : Accepted)
    (fine : Ok a ≡ judged m rows any_round (ranked.fitting m rows ranks losing)) where
  formed : form_faults m rows ranks losing ≡ []
  formed = (verdict_ok _ a (form_faults m rows ranks losing) fine).0

  well : WellFormed m rows
  well = (fitting m rows any_round (ranked.fitting m rows ranks losing) formed).1

  lengths : (eqb (length ranks) (4 * length rows) ≡ true) × (leb (length rows) (length losing) ≡ true)
  lengths = and_parts _ _ (fitting m rows any_round (ranked.fitting m rows ranks losing) formed).0

  pub few : length rows ≤ 1024
  few = few_rows m rows any_round well

  pub enough : length rows ≤ length losing
  enough = leb-true _ _ lengths.1

  pub four : length ranks ≡ 4 * length rows
  four = eqb-true _ _ lengths.0

  -- the arcs noted from all its passages
  module _ (arcs noted : List Passage) (stamps : List (Option ℕ)) (same : arcs ≡ noted) (all : Noted (length rows) (passages_in m rows) noted stamps) where
    pub told : Tells (length rows) arcs (graph_of m rows)
    told = rw same (noted_tells m rows well noted stamps all)

    pub few_arcs : length arcs ≤ 2 ^ 24
    few_arcs = rw same (noted_few (length rows) _ noted stamps all)

  module _ (ranks' : List ℕ) (losing' : List Pair) where
    -- a losing loop
    module _ (r : Result Accepted Fault) (f : Fault) (is : r ≡ Err f) (d : Drafted (graph_of m rows) (length rows) losing (Err f) ranks' losing') (rest : ranks' ≡ ranks) where
      pub refuted : Ranked m rows ranks losing (form_faults m rows ranks losing) r ranks' losing'
      refuted =
          let F : List Fault → Type 0 = λ fs. Ranked m rows ranks losing fs r ranks' losing' in
          subst F (sym formed)
          (inr (record { length = d.0; colour = d.1; answer = is ∙ ap Err d.2; written = d.3; least = d.4; rest = rest }))

      pub refuted_exact : IsTrue (is_ok r) ↔ Sound m rows ranks losing
      refuted_exact =
          let no : is_ok r ≡ false = ap is_ok is in
          (λ e. absurd (both_ways (is_ok r) no e), λ s. absurd (s.1 (odd d.1, d.3.loop, d.3.losing)))

    -- the smallest ranks
    module _ (d : Drafted (graph_of m rows) (length rows) losing (Ok tt) ranks' losing') (rest : losing' ≡ losing) (long : length ranks' ≡ length ranks) where
      smallest : (p : ℕ) → p % 2 ≡ 1 → p ≤ 7 → Smallest (graph_of m rows) p (rank_of ranks' (length rows) p)
      smallest p o h =
          let c = odd_of p o h in
          subst (λ (k : ℕ). Smallest (graph_of m rows) k (rank_of ranks' (length rows) k)) c.1 (d c.0)

      keeps : KeepsAll m rows ranks'
      keeps p o h = (smallest p o h).keeps

      pub filled : Ranked m rows ranks losing (form_faults m rows ranks losing) (Ok a) ranks' losing'
      filled =
          let F : List Fault → Type 0 = λ fs. Ranked m rows ranks losing fs (Ok a) ranks' losing' in
          let e : a ≡ record { rows = length rows; outcomes = outcomes_in m rows } = (verdict_ok _ a (form_faults m rows ranks losing) fine).1 in
          subst F (sym formed)
          (inl (record {
            answer = ap Ok e;
            checks = kept_checked m rows any_round well ranks' (long ∙ four) keeps ∙ ap Ok (sym e);
            smallest = smallest;
            long = long;
            rest = rest;
          }))

      pub filled_exact : IsTrue (is_ok {E = Fault} (Ok a)) ↔ Sound m rows ranks losing
      filled_exact = (λ _. (formed, λ l. kept_no_loop m rows any_round well ranks' keeps l.0 l.1 l.2), λ _. refl)
