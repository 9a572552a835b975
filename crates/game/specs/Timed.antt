-- The timed game as an arena: its answers, at positions as the program has them.
use Rattle.std.specs.Prelude.{◌≡◌, ℕ, ◌+◌, ◌*◌, Bool, true, cond, ◌&&◌, List, [], map, Some, None, Option, ◌==◌}
use Rattle.std.specs.List.{slice_get}
use Rattle.arena.specs.Meaning.{Meaning, Lawful}
use Rattle.arena.specs.declared.moves.Side.TheVariants.{Us}
use Rattle.arena.specs.declared.moves.Outcome.{Outcome}
use Rattle.clocks.specs.Regions.{Part}
use Rattle.regions.specs.declared.region.ClockRegion.{ClockRegion}
use Rattle.regions.specs.Types.{Region}
use Rattle.regions.specs.Code.{parts}
use Rattle.game.specs.declared.parts.Location.{Location}
use Rattle.game.specs.declared.parts.TimedPosition.{TimedPosition}
use Rattle.game.specs.Game.{Game, Place, place, start, owns, legal, outcomes, sound}

-- a position as a place: the ceilings come from the game
abbrev pub place_of : Game → TimedPosition → Place
place_of g p = place p.location (parts g.ceilings p.region)

-- and a place, of three clocks and the tick clock, as a position
abbrev pub clock_region : Option Part → ClockRegion
clock_region None = record { whole = 0; class = 0 }
clock_region (Some p) = record { whole = p.whole; class = p.rest }

abbrev pub region_from : List Part → Region
region_from r = record { x = clock_region (slice_get r 0); y = clock_region (slice_get r 1); z = clock_region (slice_get r 2); tick = clock_region (slice_get r 3) }

abbrev pub position_of : Place → TimedPosition
position_of p = record { location = p.location; region = region_from p.region }

abbrev pub in_code : Outcome Place → Outcome TimedPosition
in_code o = record { position = position_of o.position; ticked = o.ticked; by = o.by }

abbrev pub same_clock : ClockRegion → ClockRegion → Bool
same_clock a b = a.whole == b.whole && a.class == b.class

abbrev pub same_position : TimedPosition → TimedPosition → Bool
same_position p q =
    (p.location == q.location)
    && (same_clock p.region.x q.region.x
    && (same_clock p.region.y q.region.y
    && (same_clock p.region.z q.region.z
    && same_clock p.region.tick q.region.tick)))

-- a number to find a position by; own positions of a game mostly differ in it
abbrev pub digest_of : TimedPosition → ℕ
digest_of p =
    p.location + 33 * p.region.x.whole + 561 * p.region.x.class + 2805 * p.region.y.whole
    + 47685 * p.region.y.class + 238425 * p.region.z.whole + 4053225 * p.region.z.class + 7 * p.region.tick.class

abbrev pub priority_of : Option Location → ℕ
priority_of None = 0
priority_of (Some l) = l.priority

-- an own position's label is its location's number
abbrev pub timed_meaning : Game → Meaning TimedPosition
timed_meaning g =
    record {
      start = position_of (start g);
      same = same_position;
      digest = digest_of;
      owns = λ p. owns g (place_of g p);
      priority = λ p. cond (owns g (place_of g p)) (priority_of (slice_get g.locations p.location)) 0;
      label = λ p. cond (owns g (place_of g p)) p.location 0;
      legal = λ p v. legal g Us (place_of g p) v.steps v.edge;
      outcomes = λ p v. cond (legal g Us (place_of g p) v.steps v.edge) (map in_code (outcomes g (place_of g p) v.steps v.edge)) [];
    }

-- the laws of an arena
abbrev pub Lawfully : Type 0
Lawfully = (g : Game) → sound g ≡ true → Lawful (timed_meaning g)
