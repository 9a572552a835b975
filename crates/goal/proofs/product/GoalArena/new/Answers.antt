use Rattle.std.proofs.Common.{rules}
use Rattle.goal.proofs.Runs.{runs_over}
use Rattle.goal.proofs.product.GoalArena.new.Goals as goal

pub returns : goal.returns
returns g c =
    record {
      made = search rules;
      runs = runs_over (g.A.Arena.meaning c.args.below) (g.met.A.Arena.lawful c.args.below) c.args.goal;
    }
