use Rattle.std.proofs.Common.{◌≡◌, ◌≤◌, drop}
use Rattle.casetext.specs.Text.{digits, within, number}
use Rattle.casefile.proofs.text.read_number.Given as goal

abbrev pub invariant-loop-b : goal.invariant-loop-b
invariant-loop-b l = (l.n ≤ l.high) × (number l.low l.high l.field ≡ within l.low l.high (digits l.n (drop l.b-index l.field)))
