-- One of something for each clock, as the code's names have it.
use Rattle.std.specs.Prelude.{ℕ, Bool}
use Rattle.regions.specs.declared.per_clock.PerClock.{PerClock}
use Rattle.regions.specs.declared.with_tick.WithTick.{WithTick}
use Rattle.regions.specs.declared.region.ClockRegion.{ClockRegion}

abbrev pub Ceilings : Type 0
Ceilings = PerClock ℕ

abbrev pub Region : Type 0
Region = WithTick ClockRegion

abbrev pub Restart : Type 0
Restart = WithTick Bool
