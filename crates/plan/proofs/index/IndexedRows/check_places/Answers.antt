use Rattle.std.proofs.Common.{arith}
use Rattle.std.proofs.lemmas.Result.{err_from_is_err_and}
use Rattle.table.specs.Check.{place_faults}
use Rattle.plan.proofs.Turns.{turn_more, turn_err}
use Rattle.plan.proofs.index.IndexedRows.check_places.Goals as goal

pub returns-in_err-check_place : goal.returns-in_err-check_place
returns-in_err-check_place g c =
    let table = c.args.self.now in
    let F = place_faults (g.A.Arena.meaning table.arena.now) table.rows.now in
    let p = err_from_is_err_and c.from_residual.result c.from_residual.ensures.1 in
    rw (p.1, p.2)
    (turn_err F table.rows.now tt tt c.loop-s.s c.row-item.result _ (omega arith) c.row-item.is c.in_err-check_place.ensures c.loop-s.invariant)

pub loop-s-preserved : goal.loop-s-preserved
loop-s-preserved g c =
    let table = c.args.self.now in
    let F = place_faults (g.A.Arena.meaning table.arena.now) table.rows.now in
    turn_more F table.rows.now tt tt c.loop-s.s c.row-item.result (omega arith) c.row-item.is c.in_ok-check_place.ensures c.loop-s.invariant
