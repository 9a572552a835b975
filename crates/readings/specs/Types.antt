-- Readings and spots, one for each clock.
use Rattle.std.specs.Prelude.{ℕ}
use Rattle.regions.specs.declared.with_tick.WithTick.{WithTick}
use Rattle.readings.specs.declared.spots.Spot.{Spot}

abbrev pub Grains : Type 0
Grains = WithTick ℕ

abbrev pub Spots : Type 0
Spots = WithTick Spot
