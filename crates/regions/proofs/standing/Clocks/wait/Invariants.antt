use Rattle.std.proofs.Common.{◌≡◌, Some}
use Rattle.clocks.specs.Regions.{waits}
use Rattle.regions.specs.Standing.{standing}
use Rattle.regions.proofs.standing.Clocks.wait.Given as goal

abbrev pub invariant-loop : goal.invariant-loop
invariant-loop l = waits l.counter (standing l.initial.clocks) ≡ Some (standing l.clocks)
