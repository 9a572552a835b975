-- Clocks that stand in a region of theirs, as a list of clocks with the tick clock last.
use Rattle.std.specs.Prelude.{List}
use Rattle.clocks.specs.Regions.{Part}
use Rattle.regions.specs.declared.standing.Clocks.{Clocks}
use Rattle.regions.specs.Code.{parts}

abbrev pub standing : Clocks → List Part
standing s = parts s.ceilings s.region
