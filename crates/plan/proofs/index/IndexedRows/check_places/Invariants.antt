use Rattle.std.proofs.Common.{◌≡◌, drop}
use Rattle.table.specs.Check.{numbered, place_faults}
use Rattle.plan.proofs.index.IndexedRows.check_places.Given as goal

abbrev pub invariant-loop-s : goal.invariant-loop-s
invariant-loop-s g l =
    let m = g.A.Arena.meaning l.self.arena.now in
    let rows = l.self.rows.now in
    numbered (place_faults m rows) l.s (drop l.s rows) ≡ numbered (place_faults m rows) 0 rows
