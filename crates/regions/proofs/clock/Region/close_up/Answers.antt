use Rattle.std.proofs.Common.{◌-◌, arith}
use Rattle.clocks.specs.Regions.{seen}
use Rattle.clocks.proofs.Counts.{upto_le}
use Rattle.regions.specs.Code.{unceiled}
use Rattle.regions.proofs.clock.Region.close_up.Goals as goal

pub overflow_add-result : goal.overflow_add-result
overflow_add-result c = omega (arith, upto_le (seen (unceiled c.args.self)) (c.args.clock.class - 1))
