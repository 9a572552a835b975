-- When states make a goal.
use Rattle.std.specs.Prelude.{ℕ, Bool, ◌&&◌, List, length, nat_le, nat_lt}
use Rattle.std.specs.List.{list_all}
use Rattle.goal.specs.declared.state.GoalState.{GoalState}

-- of n states: one has a priority up to 5, and only those n follow it
abbrev pub fit : ℕ → GoalState → Bool
fit n s = nat_le s.priority 5 && list_all (λ t. nat_lt t n) s.next

-- a goal has 1 to 16 states, each fit
abbrev pub in_form : List GoalState → Bool
in_form states = nat_lt 0 (length states) && (nat_le (length states) 16 && list_all (fit (length states)) states)
