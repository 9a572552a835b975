use Rattle.std.proofs.Common.{rules}
use Rattle.regions.specs.Code.{part_of}
use Rattle.game.specs.Intervals.{meets}
use Rattle.timed.proofs.zones.is_met.Goals as goal

pub returns : goal.returns
returns c =
    let row = c.args.rows in
    let u = c.args.clocks.ceilings in
    let at = c.args.clocks.region in
    c.every.ensures (meets row.x (part_of u.x at.x)) (meets row.y (part_of u.y at.y)) (meets row.z (part_of u.z at.z))
    (λ r h. search rules) (λ r h. search rules) (λ r h. search rules)
