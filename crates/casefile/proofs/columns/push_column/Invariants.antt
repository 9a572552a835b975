use Rattle.std.proofs.Common.{◌≡◌, ◌+◌, ◌++◌, drop, vec_items, vec_len}
use Rattle.casetext.specs.Case.{column}
use Rattle.casefile.proofs.columns.push_column.Given as goal

abbrev pub invariant-loop-row : goal.invariant-loop-row
invariant-loop-row g l =
    (vec_items l.initial.columns.items ++ column l.colour l.ranks ≡ vec_items l.columns.items ++ column l.colour (drop l.row-index l.ranks))
    × (vec_len l.columns.items ≡ vec_len l.initial.columns.items + l.row-index)
