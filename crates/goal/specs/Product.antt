-- The arena that a goal makes over an arena: its answers, from the answers below.
use Rattle.std.specs.Prelude.{ℕ, ◌+◌, ◌*◌, ◌%◌, ◌^◌, Bool, cond, ◌&&◌, [], map, ◌==◌}
use Rattle.arena.specs.Meaning.{Meaning}
use Rattle.arena.specs.declared.moves.Outcome.{Outcome}
use Rattle.goal.specs.declared.goal.Goal.{Goal}
use Rattle.goal.specs.declared.product.GoalPosition.{GoalPosition}
use Rattle.goal.specs.Automaton.{exists, priority_in, after}

module _ {P : Type 0} (m : Meaning P) (g : Goal) where
  -- a new position below, whose label moves the goal on from a state
  abbrev pub reached : ℕ → P → GoalPosition P
  reached s p = record { below = p; state = after g s (m.label p) }

  -- an outcome below, with the state that it leads to
  abbrev pub raised : ℕ → Outcome P → Outcome (GoalPosition P)
  raised s o = record { position = reached s o.position; ticked = o.ticked; by = o.by }

  -- own are an own position below and a state that exists
  abbrev pub owned : GoalPosition P → Bool
  owned p = exists g p.state && m.owns p.below

  -- At own positions the priority comes from the state, and all else from below. Elsewhere nothing is legal.
  abbrev pub goal_meaning : Meaning (GoalPosition P)
  goal_meaning =
      record {
        start = reached 0 m.start;
        same = λ p q. (p.state == q.state) && m.same p.below q.below;
        digest = λ p. (m.digest p.below * 17 + p.state) % 2 ^ 32;
        owns = owned;
        priority = λ p. cond (owned p) (priority_in g p.state) 0;
        label = λ p. cond (owned p) (m.label p.below) 0;
        legal = λ p v. owned p && m.legal p.below v;
        outcomes = λ p v. cond (owned p) (map (raised p.state) (m.outcomes p.below v)) [];
      }
