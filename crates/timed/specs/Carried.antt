-- What a move of either side comes to.
use Rattle.std.specs.Prelude.{ℕ, cond, ◌&&◌, List, None, Option, nat_le}
use Rattle.std.specs.Option.{option_map}
use Rattle.arena.specs.declared.moves.Side.{Side}
use Rattle.arena.specs.declared.moves.Move.{Move}
use Rattle.arena.specs.declared.moves.Outcome.{Outcome}
use Rattle.clocks.specs.Regions.{Part, waits}
use Rattle.game.specs.declared.parts.TimedPosition.{TimedPosition}
use Rattle.game.specs.Game.{Game, legal, welcomed, edge_at, result_of}
use Rattle.game.specs.Timed.{place_of, in_code}

module _ (g : Game) (s : Side) where
  -- the result in the region that the wait leads to, if there is one
  abbrev pub resulting : ℕ → Move → Option (List Part) → Option (Outcome TimedPosition)
  resulting l m w = option_map (λ q. in_code (result_of g s l (edge_at g m.edge) q)) w

  -- from an own position at location l in the region r, if the move is legal there
  abbrev pub reached : ℕ → List Part → Move → Option (Outcome TimedPosition)
  reached l r m = cond (nat_le m.steps 96 && welcomed g s l m.edge (waits m.steps r)) (resulting l m (waits m.steps r)) None

  -- from a position, if the move is legal
  abbrev pub carried_out : TimedPosition → Move → Option (Outcome TimedPosition)
  carried_out p m =
      cond (legal g s (place_of g p) m.steps m.edge) (resulting p.location m (waits m.steps (place_of g p).region)) None
