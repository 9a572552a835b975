-- The graph of a table, tables that are well formed, and their losing loops.
use Rattle.std.specs.Prelude.{◌≡◌, ℕ, Bool, true, ◌⊎◌, List, [], length, is_ok, Some, None, Option}
use Rattle.std.specs.List.{slice_get}
use Rattle.std.specs.Option.{unwrap_or}
use Rattle.arena.specs.Meaning.{Meaning}
use Rattle.table.specs.declared.row.Row.{Row}
use Rattle.table.specs.Colours.{colour_of}
use Rattle.table.specs.Rows.{row_after, outcomes_of}
use Rattle.table.specs.Check.{faults, checked}
use Rattle.loops.specs.declared.pair.Pair.{Pair}
use Rattle.loops.specs.Graph.{Graph, Losing, NoLoop, Keeps}

-- what f tells of a thing, and 0 where there is none
abbrev pub told : {X : Type 0} → (X → ℕ) → Option X → ℕ
told f None = 0
told f (Some x) = f x

-- every outcome may be
abbrev pub any_round : ℕ → ℕ → ℕ → Bool
any_round c s t = true

module _ {P : Type 0} (m : Meaning P) (rows : List (Row P)) where
  -- the rows, with the colour of each outcome and the row that it leads to; in a well-formed table each leads to one
  abbrev pub graph_of : Graph
  graph_of = record {
    size = length rows;
    count = λ s. told (λ r. length (outcomes_of m r)) (slice_get rows s);
    colour = λ s i. told (λ r. told (λ o. colour_of r.latch o) (slice_get (outcomes_of m r) i)) (slice_get rows s);
    to = λ s i. told (λ r. told (λ o. unwrap_or (row_after m rows r.latch o) 0) (slice_get (outcomes_of m r) i)) (slice_get rows s);
  }

  -- nothing is wrong with the table, whatever its ranks are
  abbrev pub WellFormed : Type 0
  WellFormed = faults m rows any_round true ≡ []

  -- some rank list is accepted
  abbrev pub Accepted : Type 0
  Accepted = (ranks : List ℕ) × (is_ok (checked m rows ranks) ≡ true)

  -- there is a losing loop
  abbrev pub Loses : Type 0
  Loses = (p : ℕ) × (loop : List Pair) × Losing graph_of p loop

-- one of the two holds, and not both
abbrev pub OneOf : Type 0 → Type 0 → Type 0
OneOf A B = (A ⊎ B) × (A → B → ⊥)

-- a well-formed table is accepted with some ranks, or else it has a losing loop
abbrev pub Decided : {P : Type 0} → Meaning P → List (Row P) → Type 0
Decided m rows = WellFormed m rows → OneOf (Accepted m rows) (Loses m rows)

-- ranks that keep the rule for a colour rule out its losing loops
abbrev pub Excluded : Graph → Type 0
Excluded g = (p : ℕ) (rank : ℕ → ℕ) → Keeps g p rank → NoLoop g p
