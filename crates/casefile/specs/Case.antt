-- What reading gives.
use Rattle.std.specs.Prelude.{◌≡◌, Ok, Err, vec_items, Result}
use Rattle.timed.specs.Code.{game_of}
use Rattle.casetext.specs.declared.fault.TextFault.{TextFault}
use Rattle.casetext.specs.Case.{Contents}
use Rattle.casefile.specs.declared.case.Case.{Case}
use Rattle.casefile.specs.declared.case.ReadError.{ReadError}
use Rattle.casefile.specs.declared.case.ReadError.TheVariants.{Memory, Fault}

abbrev pub holds : Case → Contents
holds c = record { game = game_of c.game; rows = vec_items c.rows; ranks = vec_items c.ranks }

abbrev pub told : Result Case TextFault → Result Contents TextFault
told (Ok c) = Ok (holds c)
told (Err e) = Err e

-- an answer that agrees with what the text says, or that memory is wanting
abbrev pub answers : Result Contents TextFault → Result Case ReadError → Type 0
answers s (Ok c) = s ≡ Ok (holds c)
answers s (Err (Fault e)) = s ≡ Err e
answers s (Err Memory) = Unit {0}
