use Rattle.std.proofs.Common.{◌≡◌, rules}
use Rattle.table.specs.Check.{checked}
use Rattle.table.proofs.Acceptance.{acceptance}
use Rattle.plan.proofs.check.check.Goals as goal

pub returns-clause-accepts : goal.returns-clause-accepts
returns-clause-accepts g c =
    let m = g.A.Arena.meaning c.args.arena.now in
    let rows = c.args.rows.now in
    let ranks = c.args.ranks.now in
    let answered : c.survey.result ≡ checked m rows ranks = search rules in
    rw answered (acceptance m (g.met.A.Arena.lawful c.args.arena.now) rows ranks)
