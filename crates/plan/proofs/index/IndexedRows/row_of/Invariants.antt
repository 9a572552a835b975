use Rattle.std.proofs.Common.{◌-◌, length, unwrap_or}
use Rattle.plan.proofs.Buckets.{Sought}
use Rattle.plan.proofs.index.IndexedRows.row_of.Given as goal

abbrev pub invariant-loop-next : goal.invariant-loop-next
invariant-loop-next g l = Sought (g.A.Arena.meaning l.self.arena.now) l.self.rows.now (g.met.A.Arena.lawful l.self.arena.now) l.position l.latch l.next

abbrev pub decreases-loop-next : goal.decreases-loop-next
decreases-loop-next g l = length l.self.rows.now - unwrap_or l.next (length l.self.rows.now)
