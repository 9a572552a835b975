use Rattle.std.proofs.Common.{rules}
use Rattle.std.specs.Prelude.{nat_le}
use Rattle.regions.proofs.clock.Ceilings.are_allowed.Goals as goal

pub returns : goal.returns
returns c = c.every.ensures (nat_le c.args.self.x 15) (nat_le c.args.self.y 15) (nat_le c.args.self.z 15) (λ r h. search rules) (λ r h. search rules) (λ r h. search rules)
