use Rattle.std.proofs.Common.{Some, None, sym, ap, ◌∙◌}
use Rattle.goal.specs.Laws.{by_number}
use Rattle.goal.proofs.product.GoalArenaArena.outcome.Goals as goal

pub returns-in_err-below : goal.returns-in_err-below
returns-in_err-below g c =
    let a = c.args.self.now in
    c.from_residual.ensures
    ∙ by_number (g.A.Arena.meaning a.below) (g.met.A.Arena.lawful a.below) a.goal c.args.p.now c.args.m (sym c.if-not-has_state.ensures) c.args.i None
    (sym c.outcome.ensures ∙ c.in_err-below.was)

pub returns : goal.returns
returns g c =
    let a = c.args.self.now in
    ap Some c.raise.ensures
    ∙ by_number (g.A.Arena.meaning a.below) (g.met.A.Arena.lawful a.below) a.goal c.args.p.now c.args.m (sym c.if-not-has_state.ensures) c.args.i (Some c.in_ok-below.below)
    (sym c.outcome.ensures ∙ c.in_ok-below.was)
