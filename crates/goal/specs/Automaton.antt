-- A goal as an automaton: its states, and how it reads a word of labels.
use Rattle.std.specs.Prelude.{ℕ, Bool, List, [], ◌∷◌, length, take, nat_lt, slice_index, Option}
use Rattle.std.specs.List.{slice_get}
use Rattle.std.specs.Option.{option_map_or}
use Rattle.goal.specs.declared.state.GoalState.{GoalState}
use Rattle.goal.specs.declared.goal.Goal.{Goal}

-- a goal's states, which are numbered from 0
abbrev pub states_of : Goal → List GoalState
states_of g = take g.count g.states

-- the state with a number
abbrev pub state_of : Goal → ℕ → Option GoalState
state_of g s = slice_get (states_of g) s

-- whether a state exists
abbrev pub exists : Goal → ℕ → Bool
exists g s = nat_lt s (length (states_of g))

-- the priority of a state, and 0 where there is none
abbrev pub priority_in : Goal → ℕ → ℕ
priority_in g s = option_map_or (λ x. x.priority) (state_of g s) 0

-- the state after a state on a label, and 0 where there is none
abbrev pub after : Goal → ℕ → ℕ → ℕ
after g s l = option_map_or (λ x. slice_index x.next l) (state_of g s) 0

-- the states that the automaton comes to as it reads a word, from a state that it stands in
abbrev pub read_from : Goal → ℕ → List ℕ → List ℕ
read_from g s [] = []
read_from g s (l ∷ ls) = after g s l ∷ read_from g (after g s l) ls

-- a word is read from state 0 on
abbrev pub read : Goal → List ℕ → List ℕ
read g = read_from g 0
