use Rattle.std.proofs.Common.{◌≤◌, length, is_ok, refl, ap, ◌∙◌, arith}
use Rattle.std.proofs.lemmas.Option.{slice_get_read}
use Rattle.std.proofs.lemmas.Result.{err_from_is_err_and}
use Rattle.std.proofs.lemmas.Bool.{both_ways}
use Rattle.table.specs.Rows.{outcomes_of}
use Rattle.table.specs.Check.{move_faults, outcomes_in}
use Rattle.table.proofs.Bounds.{small_latch}
use Rattle.table.proofs.Lists.{verdict_ok}
use Rattle.plan.proofs.Turns.{turn_err, sum_more}
use Rattle.plan.proofs.Visits.{past_more, same_past}
use Rattle.plan.proofs.index.IndexedRows.check_moves.Goals as goal

pub check_move-requires : goal.check_move-requires
check_move-requires g c =
    let table = c.args.self.now in
    let rows = table.rows.now in
    let m = g.A.Arena.meaning table.arena.now in
    let t = c.loop-s.invariant.0 in
    record {
      there = (omega arith, small_latch m rows c.requires.places c.loop-s.s c.row-item.result (slice_get_read rows (length rows) c.loop-s.s c.row-item.result refl (omega arith) c.row-item.is));
      ready = (t.behind, (t.shown, t.upto));
    }

pub returns-in_err-outcomes : goal.returns-in_err-outcomes
returns-in_err-outcomes g c =
    let table = c.args.self.now in
    let rows = table.rows.now in
    let m = g.A.Arena.meaning table.arena.now in
    let was = c.args.visitor.now in
    let r = c.row-item.result in
    let t = c.loop-s.invariant.0 in
    let p = err_from_is_err_and c.from_residual.result c.from_residual.ensures.1 in
    let e = c.in_err-outcomes.ensures.answers ∙ same_past m rows g.V.Visitor.rule g.V.Visitor.seen was (length (outcomes_of m r)) c.loop-s.visitor c.loop-s.s r t in
    record {
      answers = rw (p.1, p.2) (turn_err (move_faults m rows (g.V.Visitor.rule was (length rows))) rows (length (outcomes_of m r)) (outcomes_in m rows) c.loop-s.s r _ (omega arith) c.row-item.is e t.faults);
      shown = λ q. absurd (both_ways _ (ap is_ok p.1) q);
    }

pub loop-s-preserved : goal.loop-s-preserved
loop-s-preserved g c =
    let table = c.args.self.now in
    let rows = table.rows.now in
    let m = g.A.Arena.meaning table.arena.now in
    let s = c.loop-s.s in
    let r = c.row-item.result in
    let n = c.in_ok-outcomes.field-0 in
    let e = c.in_ok-outcomes.ensures in
    let count = (verdict_ok (length (outcomes_of m r)) n _ e.answers).1 in
    let fits : n ≤ 65535 = omega arith in (
      past_more m rows g.V.Visitor.rule g.V.Visitor.seen c.args.visitor.now (length (outcomes_of m r)) n c.loop-s.visitor c.check_move.new.visitor s r (omega arith) c.row-item.is e.answers c.loop-s.invariant.0 e.same (e.shown refl),
      sum_more (λ r. length (outcomes_of m r)) rows s n c.loop-s.outcomes r (omega arith) c.row-item.is count c.loop-s.invariant.1,
      omega arith,
    )
