-- Zones and resets, one for each clock of a game.
use Rattle.std.specs.Prelude.{Bool}
use Rattle.regions.specs.declared.per_clock.PerClock.{PerClock}
use Rattle.game.specs.declared.bounds.Bounds.{Bounds}

abbrev pub Zone : Type 0
Zone = PerClock Bounds

abbrev pub Resets : Type 0
Resets = PerClock Bool
