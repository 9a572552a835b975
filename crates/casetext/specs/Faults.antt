-- How a fault of a text is reported: its number, the line, and the field. Where the text as a whole is at fault, the
-- last two are 0.
use Rattle.std.specs.Prelude.{ℕ}
use Rattle.refusals.specs.declared.refusal.Refusal.{Refusal}
use Rattle.casetext.specs.declared.fault.TextFault.{TextFault}
use Rattle.casetext.specs.declared.fault.TextFault.TheVariants.{TooLong, UnknownKind, FieldCount, OutOfForm, OutOfPlace, BadInterval, UnknownEnd, NoStart}

abbrev pub number_of : TextFault → ℕ
number_of (UnknownKind line) = 1
number_of (FieldCount line field) = 2
number_of (OutOfForm line field) = 3
number_of (OutOfPlace line) = 4
number_of TooLong = 4
number_of (BadInterval line field) = 5
number_of (UnknownEnd line field) = 6
number_of NoStart = 7

abbrev pub place_of : TextFault → ℕ
place_of (UnknownKind line) = line
place_of (FieldCount line field) = line
place_of (OutOfForm line field) = line
place_of (OutOfPlace line) = line
place_of TooLong = 0
place_of (BadInterval line field) = line
place_of (UnknownEnd line field) = line
place_of NoStart = 0

abbrev pub detail_of : TextFault → ℕ
detail_of (UnknownKind line) = 1
detail_of (FieldCount line field) = field
detail_of (OutOfForm line field) = field
detail_of (OutOfPlace line) = 1
detail_of TooLong = 0
detail_of (BadInterval line field) = field
detail_of (UnknownEnd line field) = field
detail_of NoStart = 0

abbrev pub refusal_of : TextFault → Refusal
refusal_of f = record { number = number_of f; place = place_of f; detail = detail_of f }
