-- What a line without faults says. Its fields count from 0 here: `slice_index_or fs i []` is one, and empty where there is none.
use Rattle.std.specs.Prelude.{ℕ, ◌+◌, ◌*◌, Bool, false, cond, List, [], None, ◌==◌, nat_lt, slice_index, slice_index_or}
use Rattle.std.specs.Option.{unwrap_or}
use Rattle.std.specs.Str.{bytes_eq}
use Rattle.arena.specs.declared.moves.Side.{Side}
use Rattle.arena.specs.declared.moves.Side.TheVariants.{Us, Them}
use Rattle.regions.specs.declared.region.ClockRegion.{ClockRegion}
use Rattle.regions.specs.Types.{Region}
use Rattle.game.specs.declared.bounds.Bounds.{Bounds}
use Rattle.game.specs.Types.{Zone, Resets}
use Rattle.game.specs.declared.parts.Location.{Location}
use Rattle.game.specs.declared.parts.Edge.{Edge}
use Rattle.game.specs.declared.parts.TimedPosition.{TimedPosition}
use Rattle.table.specs.declared.row.Row.{Row}
use Rattle.table.specs.declared.odd.PerColour.{PerColour}
use Rattle.casetext.specs.Text.{number}
use Rattle.casetext.specs.Fields.{us, interval, reset_letter, max_location, max_edge}

-- The largest numbers that may be written

abbrev pub max_ceiling : ℕ
max_ceiling = 15

abbrev pub max_priority : ℕ
max_priority = 5

abbrev pub max_whole : ℕ
max_whole = 16

abbrev pub max_class : ℕ
max_class = 4

abbrev pub max_steps : ℕ
max_steps = 96

abbrev pub max_rank : ℕ
max_rank = 65535

-- a number up to a limit, 0 where there is none
abbrev pub value : ℕ → List ℕ → ℕ
value limit f = unwrap_or (number 0 limit f) 0

-- a clock that is not there has `[0,-)`
abbrev pub everything : Bounds
everything = record { low = record { at = 0; «open» = false }; high = None }

abbrev pub bounds : List ℕ → Bounds
bounds f = unwrap_or (interval f) everything

-- one interval for each clock, from field i on
abbrev pub zone : ℕ → List (List ℕ) → Zone
zone i fs = record { x = bounds (slice_index_or fs i []); y = bounds (slice_index_or fs (i + 1) []); z = bounds (slice_index_or fs (i + 2) []) }

abbrev pub location : List (List ℕ) → Location
location fs = record { priority = value max_priority (slice_index_or fs 1 []); invariant = zone 2 fs }

abbrev pub side : List ℕ → Side
side f = cond (bytes_eq f us) Us Them

-- the letter of the i-th clock, from 0
abbrev pub reset_at : ℕ → List ℕ → Bool
reset_at i f = slice_index f i == reset_letter

abbrev pub resets : List ℕ → Resets
resets f = record { x = reset_at 0 f; y = reset_at 1 f; z = reset_at 2 f }

abbrev pub edge : List (List ℕ) → Edge
edge fs =
    record {
      side = side (slice_index_or fs 1 []);
      from = value max_location (slice_index_or fs 2 []);
      to = value max_location (slice_index_or fs 3 []);
      resets = resets (slice_index_or fs 4 []);
      guard = zone 5 fs;
    }

-- where a clock stands: its whole part in field i, and its class in the next
abbrev pub clock_at : ℕ → List (List ℕ) → ClockRegion
clock_at i fs = record { whole = value max_whole (slice_index_or fs i []); class = value max_class (slice_index_or fs (i + 1) []) }

-- a clock that is not there stands past its ceiling 0
abbrev pub absent : ClockRegion
absent = record { whole = 1; class = 0 }

-- the i-th of n clocks, from 0
abbrev pub clock_of : ℕ → ℕ → List (List ℕ) → ClockRegion
clock_of n i fs = cond (nat_lt i n) (clock_at (3 + 2 * i) fs) absent

-- n clocks, and then the tick clock
abbrev pub region : ℕ → List (List ℕ) → Region
region n fs = record { x = clock_of n 0 fs; y = clock_of n 1 fs; z = clock_of n 2 fs; tick = clock_at (3 + 2 * n) fs }

-- a row of a game with n clocks, and its ranks
abbrev pub row : ℕ → List (List ℕ) → Row TimedPosition
row n fs =
    record {
      position = record { location = value max_location (slice_index_or fs 1 []); region = region n fs };
      latch = value max_priority (slice_index_or fs 2 []);
      choice = record { steps = value max_steps (slice_index_or fs (5 + 2 * n) []); edge = number 0 max_edge (slice_index_or fs (6 + 2 * n) []) };
    }

abbrev pub ranks : ℕ → List (List ℕ) → PerColour ℕ
ranks n fs =
    record {
      one = value max_rank (slice_index_or fs (7 + 2 * n) []);
      three = value max_rank (slice_index_or fs (8 + 2 * n) []);
      five = value max_rank (slice_index_or fs (9 + 2 * n) []);
      seven = value max_rank (slice_index_or fs (10 + 2 * n) []);
    }
