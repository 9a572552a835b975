-- Where a clock stands, whatever its ceiling.
use Rattle.clocks.specs.Regions.{Part}
use Rattle.regions.specs.declared.region.ClockRegion.{ClockRegion}
use Rattle.regions.specs.Code.{part_of}

abbrev pub stands : ClockRegion → Part
stands m = part_of 0 m
