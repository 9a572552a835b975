use Rattle.plan.proofs.Visits.{Through}
use Rattle.plan.proofs.index.IndexedRows.check_move.Given as goal

abbrev pub invariant-loop-outcome : goal.invariant-loop-outcome
invariant-loop-outcome g l =
    let arena = l.self.arena.now in
    Through (g.A.Arena.meaning arena) l.self.rows.now g.V.Visitor.rule g.V.Visitor.seen l.s l.row l.initial.visitor l.visitor l.number
    (g.A.Arena.rest l.outcome-iterator.arena.now l.outcome-iterator.listing)
