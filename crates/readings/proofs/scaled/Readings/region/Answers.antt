use Rattle.std.proofs.Common.{ap, ◌∙◌}
use Rattle.clocks.specs.Regions.{ranked}
use Rattle.readings.proofs.Stands.{read_made, read_stands}
use Rattle.readings.proofs.scaled.Readings.region.Goals as goal

pub unreachable-requires : goal.unreachable-requires
unreachable-requires c =
    read_made c.args.self c.region_of-region.result (c.region_of-region.ensures c.args.self.ceilings ∙ ap ranked c.spots.ensures) c.in_default.ensures.test

pub returns : goal.returns
returns c =
    read_stands c.args.self c.region_of-region.result (c.region_of-region.ensures c.args.self.ceilings ∙ ap ranked c.spots.ensures) c.in-Some.clocks c.in-Some.ensures.fields
