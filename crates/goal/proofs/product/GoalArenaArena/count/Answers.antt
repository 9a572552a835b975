use Rattle.std.proofs.Common.{sym, ◌∙◌}
use Rattle.goal.specs.Laws.{as_many}
use Rattle.goal.proofs.product.GoalArenaArena.count.Goals as goal

pub returns-then-has_state : goal.returns-then-has_state
returns-then-has_state g c =
    let a = c.args.self.now in
    c.count.ensures
    ∙ sym (as_many (g.A.Arena.meaning a.below) (g.met.A.Arena.lawful a.below) a.goal c.args.p.now c.args.m (sym c.if-has_state.ensures))
