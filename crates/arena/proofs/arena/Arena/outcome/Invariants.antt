use Rattle.std.proofs.Common.{◌≡◌, ◌-◌}
use Rattle.std.specs.List.{slice_get}
use Rattle.arena.proofs.arena.Arena.outcome.Given as goal

abbrev pub invariant-loop : goal.invariant-loop
invariant-loop g l = slice_get (g.Self.Arena.rest l.self l.initial.listing) l.i ≡ slice_get (g.Self.Arena.rest l.self l.listing) (l.i - l.counter)
