-- What a listing of outcomes has yet to give.
use Rattle.std.specs.Prelude.{ℕ, List, [], ◌∷◌, ◌++◌, map, Some, None, Option}
use Rattle.arena.specs.declared.moves.Outcome.{Outcome}
use Rattle.regions.specs.Standing.{standing}
use Rattle.game.specs.declared.parts.TimedPosition.{TimedPosition}
use Rattle.game.specs.Game.{Game}
use Rattle.game.specs.Listing.{edges_from, theirs_over, theirs_after}
use Rattle.game.specs.Timed.{in_code}
use Rattle.timed.specs.declared.timed_game.listing.Stage.{Stage}
use Rattle.timed.specs.declared.timed_game.listing.Stage.TheVariants.{Ours, Wait, Edges}
use Rattle.timed.specs.declared.timed_game.listing.TimedListing.{TimedListing}

-- with k more regions to come after this one
module _ (g : Game) (k : ℕ) where
  abbrev pub rest_at : Stage → List (Outcome TimedPosition)
  rest_at (Ours o p) = o ∷ map in_code (theirs_over g p.location k (Some (standing p.clocks)))
  rest_at (Wait p) = map in_code (theirs_over g p.location k (Some (standing p.clocks)))
  rest_at (Edges p i) = map in_code (edges_from g p.location (standing p.clocks) i ++ theirs_after g p.location k (standing p.clocks))

  abbrev pub rest : Option Stage → List (Outcome TimedPosition)
  rest None = []
  rest (Some s) = rest_at s

abbrev pub rest_of : Game → TimedListing → List (Outcome TimedPosition)
rest_of g w = rest g w.later w.stage
