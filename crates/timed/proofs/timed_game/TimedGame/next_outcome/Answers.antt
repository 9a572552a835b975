use Rattle.std.proofs.Common.{◌≡◌, Some, map, ap, ◌∙◌}
use Rattle.regions.specs.Standing.{standing}
use Rattle.game.specs.Listing.{edges_from, theirs_after}
use Rattle.game.specs.Timed.{in_code}
use Rattle.timed.specs.Code.{game_of}
use Rattle.timed.specs.Rest.{rest, rest_of}
use Rattle.timed.proofs.Listing.{edge_handed, edges_over}
use Rattle.timed.proofs.timed_game.TimedGame.next_outcome.Goals as goal

pub returns-in-Some : goal.returns-in-Some
returns-in-Some c =
    let g = game_of c.args.self.now in
    let later = c.args.listing.now.later in
    let at = c.in-Edges.place in
    ap (rest g later) (c.in_ok-ours.was ∙ ap Some c.in-Edges.is)
    ∙ edge_handed c.in-Some.outcome (edges_from g at.location (standing at.clocks) c.in-Edges.from) (edges_from g at.location (standing at.clocks) c.next_edge.new.from) (theirs_after g at.location later (standing at.clocks)) c.in-Some.ensures

pub returns-in_default : goal.returns-in_default
returns-in_default c =
    let g = game_of c.args.self.now in
    let later = c.args.listing.now.later in
    let at = c.in-Edges.place in
    let left : rest_of g c.args.listing.now ≡ map in_code (theirs_after g at.location later (standing at.clocks)) =
    ap (rest g later) (c.in_ok-ours.was ∙ ap Some c.in-Edges.is)
    ∙ edges_over (edges_from g at.location (standing at.clocks) c.in-Edges.from) (theirs_after g at.location later (standing at.clocks)) c.in_default.ensures.0 in
    rw left (c.go_on.ensures g)
