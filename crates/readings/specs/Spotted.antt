-- Units and grains as a list of clocks, the tick clock last.
use Rattle.std.specs.Prelude.{ℕ, List, [], ◌∷◌}
use Rattle.clocks.specs.Regions.{Part, part}
use Rattle.regions.specs.Types.{Ceilings}
use Rattle.regions.specs.Code.{tick_ceiling}
use Rattle.readings.specs.declared.spots.Spot.{Spot}
use Rattle.readings.specs.Types.{Spots}

abbrev pub part_at : ℕ → Spot → Part
part_at c s = part c s.whole s.rest

abbrev pub spotted : Ceilings → Spots → List Part
spotted c s = part_at c.x s.x ∷ part_at c.y s.y ∷ part_at c.z s.z ∷ part_at tick_ceiling s.tick ∷ []

-- the same where ceilings do not matter, as for the classes
abbrev pub unceiled : Spots → List Part
unceiled s = spotted (record { x = 0; y = 0; z = 0 }) s
