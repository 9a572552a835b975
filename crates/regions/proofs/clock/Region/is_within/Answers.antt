use Rattle.std.proofs.Common.{rules}
use Rattle.regions.specs.Code.{part_of, tick_ceiling, within}
use Rattle.regions.proofs.clock.Region.is_within.Goals as goal

pub returns : goal.returns
returns c =
    let u = c.args.ceilings in
    let at = c.args.self in
    c.every.ensures (within (part_of u.x at.x)) (within (part_of u.y at.y)) (within (part_of u.z at.z)) (within (part_of tick_ceiling at.tick))
    (λ r h. search rules) (λ r h. search rules) (λ r h. search rules) (λ r h. search rules)
