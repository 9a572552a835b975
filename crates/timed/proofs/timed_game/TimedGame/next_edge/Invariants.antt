use Rattle.std.proofs.Common.{◌≡◌, ◌-◌, vec_len}
use Rattle.regions.specs.Standing.{standing}
use Rattle.game.specs.Listing.{edges_from}
use Rattle.timed.specs.Code.{game_of}
use Rattle.timed.proofs.timed_game.TimedGame.next_edge.Given as goal

-- the edges that are passed have nothing to give
abbrev pub invariant-loop-edge : goal.invariant-loop-edge
invariant-loop-edge l =
    edges_from (game_of l.self) l.place.location (standing l.place.clocks) l.initial.from
    ≡ edges_from (game_of l.self) l.place.location (standing l.place.clocks) l.from

abbrev pub decreases-loop-edge : goal.decreases-loop-edge
decreases-loop-edge l = vec_len l.self.edges - l.from
