use Rattle.regions.proofs.Owning.{proper_small, proper_next}
use Rattle.regions.proofs.standing.Clocks.next.Goals as goal

pub next_region-requires : goal.next_region-requires
next_region-requires c = proper_small c.args.self.ceilings c.args.self.region c.args.self.ok

pub invariant_of-result : goal.invariant_of-result
invariant_of-result c =
    record { ok = proper_next c.args.self.ceilings c.args.self.region c.args.self.ok c.in_ok-region.region c.in_ok-region.ensures }
