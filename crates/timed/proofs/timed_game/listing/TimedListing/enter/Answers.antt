use Rattle.regions.specs.Standing.{standing}
use Rattle.timed.proofs.Listing.{entered}
use Rattle.timed.proofs.timed_game.listing.TimedListing.enter.Goals as goal

pub returns : goal.returns
returns c = λ g. entered g c.args.place.location c.args.self.now.later (standing c.args.place.clocks) c.wait_in.result (c.wait_in.ensures g)
