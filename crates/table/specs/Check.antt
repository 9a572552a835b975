-- What the check answers: the first of all faults in the order of the tests, or the numbers of rows and outcomes.
use Rattle.std.specs.Prelude.{ℕ, suc, ◌*◌, Bool, false, cond, not, ◌&&◌, List, [], ◌∷◌, ◌++◌, length, is_some, Some, None, Ok, Err, sum_by, Option, Result, ◌==◌, nat_le, nat_lt}
use Rattle.arena.specs.Meaning.{Meaning}
use Rattle.arena.specs.declared.moves.Outcome.{Outcome}
use Rattle.table.specs.declared.row.Row.{Row}
use Rattle.table.specs.declared.accepted.Accepted.{Accepted}
use Rattle.table.specs.declared.fault.Fault.{Fault}
use Rattle.table.specs.declared.fault.Fault.TheVariants.{TooManyRows, NotOwn, Repeated, NoStartRow, IllegalMove, NoRow, RankRule, WrongLengths}
use Rattle.table.specs.Colours.{colour_of}
use Rattle.table.specs.Rows.{first_row, start_row, row_after, outcomes_of}
use Rattle.table.specs.Ranks.{keeps}

-- the fault, where the test shows it
abbrev pub when : Bool → Fault → List Fault
when b f = cond b (f ∷ []) []

-- what f finds at each of xs, numbered from n on
abbrev pub numbered : {X Y : Type 0} → (ℕ → X → List Y) → ℕ → List X → List Y
numbered f n [] = []
numbered f n (x ∷ xs) = f n x ++ numbered f (suc n) xs

-- the first fault, or else the answer
abbrev pub verdict : {R : Type 0} → R → List Fault → Result R Fault
verdict r [] = Ok r
verdict r (f ∷ _) = Err f

-- whether a row that was looked for is one before row s
abbrev pub is_before : ℕ → Option ℕ → Bool
is_before s None = false
is_before s (Some t) = nat_lt t s

-- an own position, with a latch from its priority to 5
abbrev pub is_own : {P : Type 0} → Meaning P → Row P → Bool
is_own m r = m.owns r.position && (nat_le (m.priority r.position) r.latch && nat_le r.latch 5)

-- of the place of row s: it is own, and no earlier row has it
abbrev pub place_faults : {P : Type 0} → Meaning P → List (Row P) → ℕ → Row P → List Fault
place_faults m rows s r = when (not (is_own m r)) (NotOwn s) ++ when (is_before s (first_row m rows r.position r.latch)) (Repeated s)

-- of the start: it has a row
abbrev pub start_faults : {P : Type 0} → Meaning P → List (Row P) → List Fault
start_faults m rows = when (not (is_some (start_row m rows))) NoStartRow

-- A rule says of an outcome of colour c from row s to row t whether it may be.
module _ {P : Type 0} (m : Meaning P) (rows : List (Row P)) (rule : ℕ → ℕ → ℕ → Bool) where
  -- of outcome i of row s, which has colour c: it leads to a row, by the rule
  abbrev pub target_faults : ℕ → ℕ → ℕ → Option ℕ → List Fault
  target_faults c s i None = NoRow s i ∷ []
  target_faults c s i (Some t) = when (not (rule c s t)) (RankRule s i)

  abbrev pub outcome_faults : ℕ → ℕ → ℕ → Outcome P → List Fault
  outcome_faults s latch i o = target_faults (colour_of latch o) s i (row_after m rows latch o)

  -- of the move of row s: it is legal, and so is each outcome in turn
  abbrev pub move_faults : ℕ → Row P → List Fault
  move_faults s r =
      when (not (m.legal r.position r.choice)) (IllegalMove s)
      ++ numbered (outcome_faults s r.latch) 0 (outcomes_of m r)

  -- of a table beside lists that have their lengths or not, in the order of the tests
  abbrev pub faults : Bool → List Fault
  faults fit =
      when (nat_lt 1024 (length rows)) TooManyRows
      ++ (when (not fit) WrongLengths
      ++ (numbered (place_faults m rows) 0 rows
      ++ (start_faults m rows
      ++ numbered move_faults 0 rows)))

-- the number of all outcomes
abbrev pub outcomes_in : {P : Type 0} → Meaning P → List (Row P) → ℕ
outcomes_in m rows = sum_by (λ r. length (outcomes_of m r)) rows

-- a table's verdict under a rule, beside lists that have their lengths or not
abbrev pub judged : {P : Type 0} → Meaning P → List (Row P) → (ℕ → ℕ → ℕ → Bool) → Bool → Result Accepted Fault
judged m rows rule fit = verdict (record { rows = length rows; outcomes = outcomes_in m rows }) (faults m rows rule fit)

-- the check's: the ranks keep their rule
abbrev pub checked : {P : Type 0} → Meaning P → List (Row P) → List ℕ → Result Accepted Fault
checked m rows ranks = judged m rows (keeps ranks (length rows)) (length ranks == 4 * length rows)
