use Rattle.std.proofs.Common.{rules}
use Rattle.clocks.specs.Regions.{resting}
use Rattle.regions.specs.Code.{part_of, tick_ceiling}
use Rattle.regions.proofs.standing.Clocks.some_rest.Goals as goal

pub returns : goal.returns
returns c =
    let u = c.args.self.ceilings in
    let at = c.args.self.region in
    c.some.ensures (resting (part_of u.x at.x)) (resting (part_of u.y at.y)) (resting (part_of u.z at.z)) (resting (part_of tick_ceiling at.tick))
    (λ r h. search rules) (λ r h. search rules) (λ r h. search rules) (λ r h. search rules)
