-- What makes a game sound, its start apart, and when its start is an own position.
use Rattle.std.specs.Prelude.{Bool, false, not, ◌&&◌, List, [], ◌∷◌, length, ◌==◌, nat_le}
use Rattle.std.specs.List.{list_all}
use Rattle.regions.specs.Code.{ceiled}
use Rattle.game.specs.declared.bounds.Bounds.{Bounds}
use Rattle.game.specs.declared.parts.Location.{Location}
use Rattle.game.specs.Game.{Game, in_turn, sound_location, sound_edge}

-- ceilings, locations and edges are in order, wherever the start is
abbrev pub well_made : Game → Bool
well_made g =
    ceiled g.ceilings
    && (in_turn g.ceilings
    && (nat_le (length g.locations) 32
    && (list_all (sound_location g.ceilings) g.locations
    && (nat_le (length g.edges) 64
    && list_all (sound_edge g.ceilings (length g.locations)) g.edges))))

-- the lower end is a closed 0
abbrev pub from_zero : Bounds → Bool
from_zero b = b.low.at == 0 && not b.low.open

-- there is a location 0, and each of its intervals begins with a closed 0
abbrev pub starts_at_zero : List Location → Bool
starts_at_zero [] = false
starts_at_zero (l ∷ ls) = from_zero l.invariant.x && (from_zero l.invariant.y && from_zero l.invariant.z)
