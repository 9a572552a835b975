-- The losing loop of the worked example: row 1 leads to row 3 by our edge, and row 3 back by theirs.
use Rattle.std.proofs.Common.{◌≡◌, ℕ, ◌*◌, ◌<◌, ◌≤◌, true, eqb, leb, List, [], ◌∷◌, length, Ok, Err, Result, refl, ap, ◌∙◌, subst, inl, inr, arith, lit<, lit≤}
use Rattle.std.proofs.lemmas.Bool.{and_from, eq-eqb, le-leb, cases_lt}
use Rattle.arena.specs.Meaning.{Meaning}
use Rattle.table.specs.declared.row.Row.{Row}
use Rattle.table.specs.declared.accepted.Accepted.{Accepted}
use Rattle.table.specs.declared.fault.Fault.{Fault}
use Rattle.table.specs.declared.fault.Fault.TheVariants.{LosingLoop}
use Rattle.table.specs.declared.odd.OddColour.{OddColour}
use Rattle.table.specs.declared.odd.OddColour.TheVariants.{One, Three, Five, Seven}
use Rattle.table.specs.Odd.{odd}
use Rattle.table.specs.Check.{faults}
use Rattle.table.specs.Ranks.{rank_of}
use Rattle.loops.specs.declared.pair.Pair.{Pair}
use Rattle.loops.specs.Graph.{Graph, Losing}
use Rattle.loops.specs.Table.{graph_of, any_round}
use Rattle.loops.proofs.Ranks.{none_losing}
use Rattle.ranker.specs.Ranked.{fitting, form_faults, Ranked}
use Rattle.game.specs.Timed.{timed_meaning}
use Rattle.casetext.specs.declared.fault.TextFault.{TextFault}
use Rattle.casetext.specs.Case.{Contents, read_text}
use Rattle.worked.specs.Worked.{blaming, names_loop, Loops}

-- row 1 by its outcome 0, and row 3 by its outcome 2
loop : List Pair
loop = record { row = 1; outcome = 0 } ∷ record { row = 3; outcome = 2 } ∷ []

-- a graph of five rows in which these lead to each other, by colours 1 and 0
record Rounds (g : Graph) : Type 0 where
  size : g.size ≡ 5
  there : 0 < g.count 1
  back : 2 < g.count 3
  there_to : g.to 1 0 ≡ 3
  back_to : g.to 3 2 ≡ 1
  there_colour : g.colour 1 0 ≡ 1
  back_colour : g.colour 3 2 ≡ 0

loses : (g : Graph) → Rounds g → Losing g 1 loop
unfolding loop
loses g x =
    record {
      first = 1;
      round = (refl, omega (arith, x.size), x.there, rw x.there_to (refl, omega (arith, x.size), x.back, x.back_to));
      simple = ((λ (e : 3 ≡ 1). omega arith, tt), (tt, tt));
      top = rw (x.there_colour, x.back_colour) refl;
      odd = refl;
    }

smallest_odd : (c : OddColour) → odd c ≤ 1 → c ≡ One
smallest_odd One h = refl
smallest_odd Three h = absurd (omega arith)
smallest_odd Five h = absurd (omega arith)
smallest_odd Seven h = absurd (omega arith)

module _ {P : Type 0} (m : Meaning P) (rows : List (Row P)) (x : Rounds (graph_of m rows)) (none : faults m rows any_round true ≡ []) where
  named : (ranks ranks' : List ℕ) (losing losing' : List Pair) (r : Result Accepted Fault) → length ranks ≡ 20 → 5 ≤ length losing →
      Ranked m rows ranks losing (form_faults m rows ranks losing) r ranks' losing' → (k : ℕ) × (r ≡ Err (LosingLoop k 1))
  named ranks ranks' losing losing' r four enough h =
      let five : length rows ≡ 5 = x.size in
      let fits : fitting m rows ranks losing ≡ true =
      and_from (eqb (length ranks) (4 * length rows)) (leb (length rows) (length losing)) (eq-eqb (length ranks) (4 * length rows) (omega arith)) (le-leb (length rows) (length losing) (omega arith)) in
      let h' : Ranked m rows ranks losing [] r ranks' losing' = subst (λ fs. Ranked m rows ranks losing fs r ranks' losing') (ap (λ b. faults m rows any_round b) fits ∙ none) h in
      elim h' [
        | inl f ↦ absurd (none_losing (graph_of m rows) 1 (rank_of ranks' (length rows) 1) (f.smallest 1 refl (lit≤ tt)).keeps loop (loses (graph_of m rows) x))
        | inr q ↦ elim (cases_lt 1 (odd q.colour)) [
          | inl l ↦ absurd (q.least 1 l loop (loses (graph_of m rows) x))
          | inr l ↦
              let one = q.written.losing.odd in
              let e = smallest_odd q.colour l in
              (q.length, q.answer ∙ ap (λ c. Err (LosingLoop q.length (odd c))) e)
        ]
      ]

-- what is shown of a case that is read
abbrev Shown : Result Contents TextFault → Type 0
Shown (Err f) = ⊥
Shown (Ok c) = Rounds (graph_of (timed_meaning c.game) c.rows) × (faults (timed_meaning c.game) c.rows any_round true ≡ [])

by_contents : (s : Result Contents TextFault) → Shown s → names_loop s
by_contents (Err f) h = h
by_contents (Ok c) h = named (timed_meaning c.game) c.rows h.0 h.1

pub names_loop_lem : Loops
names_loop_lem =
    by_contents (read_text blaming)
    (record { size = refl; there = lit< tt; back = lit< tt; there_to = refl; back_to = refl; there_colour = refl; back_colour = refl }, refl)
