-- A walk by a table: its steps, and the walk after a list of calls.
use Rattle.std.specs.Prelude.{ℕ, ◌+◌, cond, List, [], ◌∷◌, length, Some, None, Ok, Err, Option, Result, ◌==◌, nat_le, nat_lt}
use Rattle.std.specs.List.{slice_get}
use Rattle.arena.specs.Meaning.{Meaning}
use Rattle.arena.specs.declared.moves.Outcome.{Outcome}
use Rattle.table.specs.declared.row.Row.{Row}
use Rattle.table.specs.declared.fault.Fault.{Fault}
use Rattle.table.specs.declared.fault.Fault.TheVariants.{TooManyRows, NoRowHere, IllegalHere, NoOutcome, TooManyRounds}
use Rattle.table.specs.Odd.{odd, at, for_each}
use Rattle.table.specs.Colours.{colour_of, latch_after}
use Rattle.table.specs.Rows.{first_row, outcomes_of}
use Rattle.runs.specs.declared.state.State.{State}
use Rattle.runs.specs.declared.state.Tally.{Tally}

-- at the start, with nothing counted
abbrev pub new_walk : {P : Type 0} → Meaning P → State P
new_walk m =
    record {
      position = m.start;
      latch = m.priority m.start;
      tally = record { rounds = 0; counts = for_each (λ _. 0) };
    }

-- the tally of p after a round of colour c: a larger colour clears it
abbrev pub tallied : ℕ → ℕ → ℕ → ℕ
tallied p c n = cond (nat_lt p c) 0 (cond (p == c) (n + 1) n)

abbrev pub tally_after : ℕ → Tally → Tally
tally_after c t = record { rounds = t.rounds + 1; counts = for_each (λ p. tallied (odd p) c (at p t.counts)) }

-- a walk after a round with this outcome
abbrev pub moved : {P : Type 0} → Meaning P → State P → Outcome P → State P
moved m w o = record { position = o.position; latch = latch_after m w.latch o; tally = tally_after (colour_of w.latch o) w.tally }

-- the row of a number that was looked for
abbrev pub row_of : {P : Type 0} → List (Row P) → Option ℕ → Option (Row P)
row_of rows None = None
row_of rows (Some s) = slice_get rows s

-- the row where a walk stands: the first with its position and latch
abbrev pub row_here : {P : Type 0} → Meaning P → List (Row P) → State P → Option (Row P)
row_here m rows w = row_of rows (first_row m rows w.position w.latch)

-- the outcome that a step with number i takes, or why it takes none
abbrev pub chosen : {P : Type 0} → Option (Outcome P) → Result (Outcome P) Fault
chosen None = Err NoOutcome
chosen (Some o) = Ok o

abbrev pub chosen_by : {P : Type 0} → Meaning P → ℕ → Option (Row P) → Result (Outcome P) Fault
chosen_by m i None = Err NoRowHere
chosen_by m i (Some r) = cond (m.legal r.position r.choice) (chosen (slice_get (outcomes_of m r) i)) (Err IllegalHere)

abbrev pub taken : {P : Type 0} → Meaning P → List (Row P) → ℕ → State P → Result (Outcome P) Fault
taken m rows i w =
    cond (nat_lt 1024 (length rows)) (Err TooManyRows)
    (cond (nat_le 1000000 w.tally.rounds) (Err TooManyRounds)
    (chosen_by m i (row_here m rows w)))

-- a step says only that it is taken, or why not
abbrev pub answered : {P : Type 0} → Result (Outcome P) Fault → Result (Unit {0}) Fault
answered (Ok o) = Ok tt
answered (Err f) = Err f

-- a taken step is a round, and a refused one changes nothing
abbrev pub moved_by : {P : Type 0} → Meaning P → State P → Result (Outcome P) Fault → State P
moved_by m w (Ok o) = moved m w o
moved_by m w (Err f) = w

-- what is read off a walk, open or closed
abbrev pub reading : {P : Type 0} → State P → Tally
reading w = w.tally

pub data Call : Type 0 where
  step : ℕ → Call
  tally : Call

-- a walk with the outcomes of its rounds so far, the latest first
pub record History (P : Type 0) : Type 0 where
  pub walk : State P
  pub past : List (Outcome P)

abbrev pub begun : {P : Type 0} → Meaning P → History P
begun m = record { walk = new_walk m; past = [] }

abbrev pub noted : {P : Type 0} → Result (Outcome P) Fault → List (Outcome P) → List (Outcome P)
noted (Ok o) past = o ∷ past
noted (Err f) past = past

-- a history after a call
abbrev pub called : {P : Type 0} → Meaning P → List (Row P) → History P → Call → History P
called m rows h (step i) = let o = taken m rows i h.walk in record { walk = moved_by m h.walk o; past = noted o h.past }
called m rows h tally = h

-- a history after these calls, in their order
abbrev pub after : {P : Type 0} → Meaning P → List (Row P) → History P → List Call → History P
after m rows h [] = h
after m rows h (c ∷ calls) = after m rows (called m rows h c) calls
