use Rattle.std.proofs.Common.{◌≡◌, ◌++◌, List, length}
use Rattle.plan.specs.Index.{Indexes}
use Rattle.plan.proofs.index.IndexedRows.new.Given as goal

abbrev pub invariant-loop-s : goal.invariant-loop-s
invariant-loop-s g l =
    let rest = l.s-iterator.iter.iter.rest.now in
    Indexes (g.A.Arena.meaning l.arena) l.rows (length rest) l.buckets.heads l.buckets.links
    × (length l.buckets.heads ≡ 1021)
    × (length l.buckets.links ≡ 1024)
    × (l.s-iterator.iter.count ≡ 0)
    × ((done : List _) × (l.rows ≡ rest ++ done))
