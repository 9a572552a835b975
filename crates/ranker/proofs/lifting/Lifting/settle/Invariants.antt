use Rattle.ranker.specs.Lifts.{Below, slack}
use Rattle.ranker.specs.Task.{SameTask}
use Rattle.ranker.proofs.lifting.Lifting.settle.Given as goal

abbrev pub invariant-loop-row : goal.invariant-loop-row
invariant-loop-row l = Below l.self.ranks.now × SameTask l.initial.self l.self

abbrev pub decreases-loop-row : goal.decreases-loop-row
decreases-loop-row l = slack l.self.ranks.now
