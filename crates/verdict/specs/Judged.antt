-- The verdict on a text: what the check says of the game, the rows and the ranks that are read from it.
use Rattle.std.specs.Prelude.{ℕ, List, Ok, Err, Result}
use Rattle.table.specs.declared.accepted.Accepted as answers
use Rattle.table.specs.declared.fault.Fault as faults
use Rattle.table.specs.Check.{checked}
use Rattle.game.specs.Timed.{timed_meaning}
use Rattle.casetext.specs.declared.fault.TextFault.{TextFault}
use Rattle.casetext.specs.Case.{Contents, read_text}
use Rattle.verdict.specs.declared.verdict.Verdict.{Verdict}
use Rattle.verdict.specs.declared.verdict.Verdict.TheVariants.{Accepted, Unreadable, Refused}

abbrev pub said : Result answers.Accepted faults.Fault → Verdict
said (Ok a) = Accepted a
said (Err f) = Refused f

abbrev pub on_contents : Result Contents TextFault → Verdict
on_contents (Ok c) = said (checked (timed_meaning c.game) c.rows c.ranks)
on_contents (Err f) = Unreadable f

abbrev pub judged : List ℕ → Verdict
judged text = on_contents (read_text text)
