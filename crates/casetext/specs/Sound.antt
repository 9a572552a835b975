-- What every case that is read has.
use Rattle.std.specs.Prelude.{◌≡◌, ◌*◌, ◌≤◌, true, length, IfSome}
use Rattle.std.specs.List.{AllByRecursion}
use Rattle.regions.specs.declared.region.ClockRegion.{ClockRegion}
use Rattle.game.specs.declared.parts.TimedPosition.{TimedPosition}
use Rattle.game.specs.Game.{sound}
use Rattle.table.specs.declared.row.Row.{Row}
use Rattle.casetext.specs.Fields.{max_location, max_edge}
use Rattle.casetext.specs.Items.{max_priority, max_whole, max_class, max_steps, max_rank}
use Rattle.casetext.specs.Lines.{max_rows}
use Rattle.casetext.specs.Case.{Contents}

pub record ClockInRange (c : ClockRegion) : Type 0 where
  pub whole : c.whole ≤ max_whole
  pub class : c.class ≤ max_class

-- every number of a row is in its range
pub record RowInRange (r : Row TimedPosition) : Type 0 where
  pub location : r.position.location ≤ max_location
  pub latch : r.latch ≤ max_priority
  pub x : ClockInRange r.position.region.x
  pub y : ClockInRange r.position.region.y
  pub z : ClockInRange r.position.region.z
  pub tick : ClockInRange r.position.region.tick
  pub steps : r.choice.steps ≤ max_steps
  pub edge : IfSome r.choice.edge (λ e. e ≤ max_edge)

-- The game keeps all that is asked of a timed game, its start too; there are no more rows than there may be, with
-- numbers in their ranges, and four ranks to a row
pub record Sound (c : Contents) : Type 0 where
  pub game : sound c.game ≡ true
  pub few_rows : length c.rows ≤ max_rows
  pub rows : AllByRecursion RowInRange c.rows
  pub four_ranks : length c.ranks ≡ 4 * length c.rows
  pub ranks : AllByRecursion (λ r. r ≤ max_rank) c.ranks
