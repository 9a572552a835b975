use Rattle.std.proofs.Common.{refl, ◌∙◌, arith}
use Rattle.regions.specs.Standing.{standing}
use Rattle.timed.proofs.Listing.{no_more, one_more}
use Rattle.timed.proofs.timed_game.listing.TimedListing.go_on.Goals as goal

pub returns-in_err-clocks : goal.returns-in_err-clocks
returns-in_err-clocks c = λ g.
    rw c.from_residual.ensures (no_more g c.args.place.location c.args.self.now.later (standing c.args.place.clocks) (omega arith) c.in_err-clocks.ensures, refl)

pub returns : goal.returns
returns c = λ g.
    one_more g c.args.place.location c.args.self.now.later (standing c.args.place.clocks) (standing c.in_ok-clocks.clocks) (omega arith) c.in_ok-clocks.ensures
    ∙ c.enter.ensures g
