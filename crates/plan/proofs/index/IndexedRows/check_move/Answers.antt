use Rattle.std.proofs.Common.{length, refl, ap, ◌∙◌}
use Rattle.plan.specs.Passages.{passages_at}
use Rattle.plan.proofs.Visits.{partly_ready, through_none, through_more}
use Rattle.plan.proofs.index.IndexedRows.check_move.Goals as goal

pub loop-outcome-init : goal.loop-outcome-init
loop-outcome-init g c =
    let table = c.args.self.now in
    through_none (g.A.Arena.meaning table.arena.now) table.rows.now g.V.Visitor.rule g.V.Visitor.seen c.args.s c.args.row.now c.args.visitor.now
    _ (ap (λ i. g.A.Arena.rest i.arena.now i.listing) c.into_iter-outcome-iterator.ensures.into_iter_gives ∙ c.outcomes-outcome-items.ensures)

pub check_outcome-requires : goal.check_outcome-requires
check_outcome-requires g c =
    let table = c.args.self.now in
    record {
      there = c.requires.there;
      ready = partly_ready g.V.Visitor.seen (length table.rows.now) c.args.s
          (passages_at (g.A.Arena.meaning table.arena.now) table.rows.now c.args.s c.args.row.now) c.args.visitor.now c.loop-outcome.visitor _ c.loop-outcome.invariant.part c.requires.ready;
    }

pub loop-outcome-preserved : goal.loop-outcome-preserved
loop-outcome-preserved g c =
    let table = c.args.self.now in
    let e = c.in_ok-check_outcome.ensures in
    let was = c.loop-outcome.outcome-iterator in
    let is = c.next.new.self in
    through_more (g.A.Arena.meaning table.arena.now) table.rows.now g.V.Visitor.rule g.V.Visitor.seen c.args.s c.args.row.now c.args.visitor.now
    tt c.in_ok-check_outcome.field-0 c.loop-outcome.visitor c.check_outcome.new.visitor c.loop-outcome.number c.in-Some.outcome
    (g.A.Arena.rest was.arena.now was.listing) (g.A.Arena.rest is.arena.now is.listing) c.in-Some.ensures.steps
    e.answers e.same (e.shown refl) c.loop-outcome.invariant
