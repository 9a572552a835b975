use Rattle.std.proofs.Common.{◌≡◌, eqb}
use Rattle.std.specs.Prelude.{count_by, take}
use Rattle.casefile.proofs.line.Line.field_count.Given as goal

-- the tabs of the bytes so far
abbrev pub invariant-loop-b : goal.invariant-loop-b
invariant-loop-b l = l.tabs ≡ count_by (λ b. eqb b 9) (take l.b-index l.self.bytes.now)
