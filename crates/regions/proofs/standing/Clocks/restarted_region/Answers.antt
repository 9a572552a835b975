use Rattle.std.proofs.Common.{ap, ◌∙◌}
use Rattle.clocks.specs.Regions.{ranked}
use Rattle.regions.specs.Code.{flags}
use Rattle.regions.proofs.Owning.{proper_restarted}
use Rattle.regions.proofs.standing.Clocks.restarted_region.Goals as goal

pub returns : goal.returns
returns c =
    let e = c.closed_up.ensures c.args.self.ceilings ∙ ap ranked c.zeroed_region.ensures in
    record { own = proper_restarted c.args.self.ceilings c.args.self.region c.args.self.ok (flags c.args.restart) c.closed_up.result e; is = e }
