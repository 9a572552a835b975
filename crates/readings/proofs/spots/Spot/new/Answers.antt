use Rattle.std.proofs.Common.{◌/◌, ◌≤◌, arith}
use native.Mathlib.Nat.{div-le_of_le-mul}
use Rattle.readings.proofs.Limits.{units_fit}
use Rattle.readings.proofs.spots.Spot.new.Goals as goal

pub overflow_mul-ceiling : goal.overflow_mul-ceiling
overflow_mul-ceiling c = omega (arith, units_fit c.args.ceiling c.args.scale c.requires.low c.requires.fine)

pub overflow_cast-result : goal.overflow_cast-result
overflow_cast-result c =
    let a : c.args.reading / c.args.scale ≤ c.args.ceiling = div-le_of_le-mul c.args.scale (omega arith) in omega arith
