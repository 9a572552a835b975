use Rattle.std.proofs.Common.{◌≡◌}
use Rattle.clocks.specs.Regions.{seen, upto}
use Rattle.regions.specs.Code.{unceiled}
use Rattle.regions.proofs.clock.Region.classes_up_to.Given as goal

abbrev pub invariant-loop-below : goal.invariant-loop-below
invariant-loop-below l = l.count ≡ upto (seen (unceiled l.self)) l.below
