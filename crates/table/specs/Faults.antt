-- What a refusal names: its number, its place and its detail.
use Rattle.std.specs.Prelude.{ℕ}
use Rattle.refusals.specs.declared.refusal.Refusal.{Refusal}
use Rattle.table.specs.declared.fault.Fault.{Fault}
use Rattle.table.specs.declared.fault.Fault.TheVariants.{TooManyRows, NotOwn, Repeated, NoStartRow, IllegalMove, NoRow, RankRule, LosingLoop, WrongLengths, NoRowHere, IllegalHere, NoOutcome, TooManyRounds}

abbrev pub number_of : Fault → ℕ
number_of TooManyRows = 4
number_of (NotOwn s) = 8
number_of (Repeated s) = 9
number_of NoStartRow = 10
number_of (IllegalMove s) = 11
number_of (NoRow s i) = 12
number_of (RankRule s i) = 13
number_of (LosingLoop k c) = 14
number_of WrongLengths = 15
number_of NoRowHere = 12
number_of IllegalHere = 11
number_of NoOutcome = 16
number_of TooManyRounds = 17

-- the row, or the length of the loop
abbrev pub place_of : Fault → ℕ
place_of TooManyRows = 0
place_of (NotOwn s) = s
place_of (Repeated s) = s
place_of NoStartRow = 0
place_of (IllegalMove s) = s
place_of (NoRow s i) = s
place_of (RankRule s i) = s
place_of (LosingLoop k c) = k
place_of WrongLengths = 0
place_of NoRowHere = 0
place_of IllegalHere = 0
place_of NoOutcome = 0
place_of TooManyRounds = 0

-- the outcome, or the colour of the loop
abbrev pub detail_of : Fault → ℕ
detail_of TooManyRows = 0
detail_of (NotOwn s) = 0
detail_of (Repeated s) = 0
detail_of NoStartRow = 0
detail_of (IllegalMove s) = 0
detail_of (NoRow s i) = i
detail_of (RankRule s i) = i
detail_of (LosingLoop k c) = c
detail_of WrongLengths = 0
detail_of NoRowHere = 0
detail_of IllegalHere = 0
detail_of NoOutcome = 0
detail_of TooManyRounds = 0

abbrev pub refusal_of : Fault → Refusal
refusal_of f = record { number = number_of f; place = place_of f; detail = detail_of f }
