-- Rows of a game's tables that have been checked.
use Rattle.std.specs.Prelude.{Bool, ◌&&◌}
use Rattle.game.specs.Types.{Zone}
use Rattle.game.specs.Intervals.{inhabited}

-- each interval contains a reading
abbrev pub habitable : Zone → Bool
habitable z = inhabited z.x && (inhabited z.y && inhabited z.z)
