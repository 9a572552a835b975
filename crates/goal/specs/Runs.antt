-- Runs of an arena, and what a goal over it adds to them.
use Rattle.std.specs.Prelude.{◌≡◌, ℕ, List, [], ◌∷◌, map, Some, Option}
use Rattle.std.specs.List.{slice_get}
use Rattle.std.specs.Option.{option_map, option_and_then}
use Rattle.arena.specs.Meaning.{Meaning}
use Rattle.arena.specs.declared.moves.Move.{Move}
use Rattle.arena.specs.declared.moves.Outcome.{Outcome}
use Rattle.goal.specs.declared.goal.Goal.{Goal}
use Rattle.goal.specs.declared.product.GoalPosition.{GoalPosition}
use Rattle.goal.specs.Automaton.{priority_in, read}
use Rattle.goal.specs.Product.{goal_meaning}

-- what is picked for a round: our move, and the number of its outcome
pub record Pick : Type 0 where
  pub choice : Move
  pub number : ℕ

-- The rounds that picks make from a position on. There is no such run where a picked outcome is not there, as of a move that is not legal.
abbrev pub run_from : {P : Type 0} → Meaning P → P → List Pick → Option (List (Outcome P))
run_from m p [] = Some []
run_from m p (k ∷ ks) = option_and_then (λ o. option_map (◌∷◌ o) (run_from m o.position ks)) (slice_get (m.outcomes p k.choice) k.number)

-- a run begins at the start
abbrev pub run : {P : Type 0} → Meaning P → List Pick → Option (List (Outcome P))
run m = run_from m m.start

-- the positions along a run, from the start on
abbrev pub along : {P : Type 0} → Meaning P → List (Outcome P) → List P
along m os = m.start ∷ map (λ o. o.position) os

-- a round with the goal's state left out
abbrev pub lowered : {P : Type 0} → Outcome (GoalPosition P) → Outcome P
lowered o = record { position = o.position.below; ticked = o.ticked; by = o.by }

-- the word that the goal reads along a run below
abbrev pub word : {P : Type 0} → Meaning P → List (Outcome P) → List ℕ
word m os = map m.label (along m os)

pub record RunsOver {P : Type 0} (m : Meaning P) (g : Goal) : Type 0 where
  -- Picks make a run over the goal exactly when they make one below. It is the same but for the states: positions below, ticks and sides agree.
  pub same : (ks : List Pick) → option_map (map lowered) (run (goal_meaning m g) ks) ≡ run m ks
  -- Its states are those that the automaton comes to as it reads the labels below, from the start on,
  pub states : (ks : List Pick) (os : List (Outcome (GoalPosition P))) → run (goal_meaning m g) ks ≡ Some os →
      map (λ p. p.state) (along (goal_meaning m g) os) ≡ read g (word m (map lowered os))
  -- its priorities are those of these states, and its labels are those below.
  pub priorities : (ks : List Pick) (os : List (Outcome (GoalPosition P))) → run (goal_meaning m g) ks ≡ Some os →
      map (goal_meaning m g).priority (along (goal_meaning m g) os) ≡ map (priority_in g) (read g (word m (map lowered os)))
  pub labels : (ks : List Pick) (os : List (Outcome (GoalPosition P))) → run (goal_meaning m g) ks ≡ Some os →
      word (goal_meaning m g) os ≡ word m (map lowered os)
