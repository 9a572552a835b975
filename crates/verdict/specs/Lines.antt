-- Verdicts as lines, without their line feed.
use Rattle.std.specs.Prelude.{ℕ, List, ◌++◌, codes}
use Rattle.refusals.specs.Lines.{field, refused_line}
use Rattle.table.specs.Faults as table
use Rattle.casetext.specs.Faults as text
use Rattle.verdict.specs.declared.verdict.Verdict.{Verdict}
use Rattle.verdict.specs.declared.verdict.Verdict.TheVariants.{Accepted, Unreadable, Refused}

-- `accepted` with the numbers of rows and outcomes, or the refusal
abbrev pub line_of : Verdict → List ℕ
line_of (Accepted a) = codes "accepted" ++ (field a.rows ++ field a.outcomes)
line_of (Unreadable f) = refused_line (text.refusal_of f)
line_of (Refused f) = refused_line (table.refusal_of f)
