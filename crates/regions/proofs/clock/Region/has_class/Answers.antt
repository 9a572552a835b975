use Rattle.std.proofs.Common.{rules}
use Rattle.std.specs.Prelude.{nat_eq}
use Rattle.regions.proofs.clock.Region.has_class.Goals as goal

pub returns : goal.returns
returns c =
    let at = c.args.self in
    c.some.ensures (nat_eq at.x.class c.args.class) (nat_eq at.y.class c.args.class) (nat_eq at.z.class c.args.class) (nat_eq at.tick.class c.args.class)
    (λ r h. search rules) (λ r h. search rules) (λ r h. search rules) (λ r h. search rules)
