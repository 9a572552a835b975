use Rattle.std.proofs.Common.{◌≡◌, ◌*◌, length, take, vec_items, vec_len}
use Rattle.std.specs.List.{flat_map}
use Rattle.casetext.specs.Case.{column}
use Rattle.casefile.proofs.columns.fill_columns.Given as goal

abbrev pub invariant-loop-colour : goal.invariant-loop-colour
invariant-loop-colour g l =
    (vec_items l.columns.items ≡ flat_map (λ c. column c l.ranks) (take l.colour-index l.colour-items))
    × (vec_len l.columns.items ≡ l.colour-index * length l.ranks)
