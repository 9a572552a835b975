use Rattle.std.proofs.Common.{◌≡◌, ◌+◌, ◌*◌, ◌≤◌, drop}
use Rattle.table.specs.Check.{outcomes_in}
use Rattle.plan.proofs.Visits.{Past}
use Rattle.plan.proofs.index.IndexedRows.check_moves.Given as goal

abbrev pub invariant-loop-s : goal.invariant-loop-s
invariant-loop-s g l =
    let m = g.A.Arena.meaning l.self.arena.now in
    let rows = l.self.rows.now in
    Past m rows g.V.Visitor.rule g.V.Visitor.seen l.initial.visitor l.visitor l.s
    × (l.outcomes + outcomes_in m (drop l.s rows) ≡ outcomes_in m rows)
    × (l.outcomes ≤ 65535 * l.s)
