use Rattle.table.specs.Odd.{odd}
use Rattle.ranker.specs.Lifts.{Below, Moved}
use Rattle.ranker.specs.Task.{SameTask}
use Rattle.ranker.proofs.Sweeps.{MetAt}
use Rattle.ranker.proofs.lifting.Lifting.sweep.Given as goal

abbrev pub invariant-loop-k : goal.invariant-loop-k
invariant-loop-k g l =
    let was = l.initial.self in
    Below l.self.ranks.now × SameTask was l.self × Moved (MetAt was.arcs.list.now (odd was.colour) l.yielded) was.ranks.now l.self.ranks.now l.last
