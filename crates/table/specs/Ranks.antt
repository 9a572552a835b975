-- Ranks and their rule.
use Rattle.std.specs.Prelude.{ℕ, ◌+◌, ◌*◌, ◌/◌, Bool, cond, ◌||◌, List, ◌==◌, nat_le, nat_lt, slice_index}
use Rattle.std.specs.List.{list_all}
use Rattle.table.specs.Odd.{odd, all}

-- The rank of row s for the odd colour p, of n rows: the ranks of colour 1 for all rows come first, then those of 3, 5 and 7.
abbrev pub rank_of : List ℕ → ℕ → ℕ → ℕ → ℕ
rank_of ranks n p s = slice_index ranks (p / 2 * n + s)

-- The rule for the odd colour p at an outcome of colour c from row s to row t: where p is not below c, the rank of s is
-- at least that of t, and above it when p is c.
abbrev pub keeps_for : List ℕ → ℕ → ℕ → ℕ → ℕ → ℕ → Bool
keeps_for ranks n p c s t = nat_lt p c || cond (p == c) (nat_lt (rank_of ranks n p t) (rank_of ranks n p s)) (nat_le (rank_of ranks n p t) (rank_of ranks n p s))

-- the rule for all odd colours
abbrev pub keeps : List ℕ → ℕ → ℕ → ℕ → ℕ → Bool
keeps ranks n c s t = list_all (λ colour. keeps_for ranks n (odd colour) c s t) all
