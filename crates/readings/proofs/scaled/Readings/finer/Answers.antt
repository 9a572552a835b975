use Rattle.std.proofs.Common.{arith}
use Rattle.readings.proofs.Limits.{scale_fits, finer_readable}
use Rattle.readings.proofs.scaled.Readings.finer.Goals as goal

pub overflow_mul-scale : goal.overflow_mul-scale
overflow_mul-scale c = omega (arith, scale_fits c.args.factor c.args.self (omega arith))

pub invariant_of-result : goal.invariant_of-result
invariant_of-result c =
    record { ok = finer_readable c.args.factor c.args.self (omega arith) c.finer_grains-grains.result (omega arith) c.finer_grains-grains.ensures }
