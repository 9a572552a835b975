use Rattle.std.proofs.Common.{◌≡◌, ◌+◌, ◌≤◌, length, Ok}
use Rattle.casetext.specs.Text.{lines}
use Rattle.casetext.specs.Case.{read_lines}
use Rattle.casefile.specs.Draft.{said}
use Rattle.casefile.proofs.draft.Draft.read_lines.Given as goal

abbrev pub invariant-loop-i : goal.invariant-loop-i
invariant-loop-i l =
    (l.i-iterator.count + length l.i-iterator.iter.rest.now ≤ 65536)
    × (read_lines 0 (Ok (said l.initial.self)) (lines l.text) ≡ read_lines l.i-iterator.count (Ok (said l.self)) (lines l.i-iterator.iter.rest.now))
