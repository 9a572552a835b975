-- Refusals as lines, without their line feed.
use Rattle.std.specs.Prelude.{ℕ, List, ◌∷◌, ◌++◌, codes, decimal}
use Rattle.refusals.specs.declared.refusal.Refusal.{Refusal}

-- one more field: a tab and a number
abbrev pub field : ℕ → List ℕ
field n = 9 ∷ decimal n

-- `refused` with number, place and detail
abbrev pub refused_line : Refusal → List ℕ
refused_line r = codes "refused" ++ (field r.number ++ (field r.place ++ field r.detail))
