use Rattle.std.proofs.Common.{◌≡◌, length, ◌+◌}
use Rattle.arena.proofs.arena.Arena.count.Given as goal

abbrev pub invariant-loop-listed : goal.invariant-loop-listed
invariant-loop-listed g l = l.listed + length (g.Self.Arena.rest l.self l.listing) ≡ length (g.Self.Arena.rest l.self l.initial.listing)

abbrev pub decreases-loop-listed : goal.decreases-loop-listed
decreases-loop-listed g l = length (g.Self.Arena.rest l.self l.listing)
