use Rattle.ranker.proofs.Sweeps.{settled}
use Rattle.ranker.proofs.lifting.Lifting.settle.Goals as goal

pub returns-clause-settled : goal.returns-clause-settled
returns-clause-settled c = settled c.loop-row.self c.sweep_all.new.self c.sweep_all.result c.sweep_all.ensures.same c.loop-row.invariant.0 c.in_default.is c.sweep_all.ensures.moved
