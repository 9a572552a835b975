-- Readings at a scale: what they tell, how they begin, and what becomes of them.
use Rattle.std.specs.Prelude.{ℕ, ◌*◌, Bool, cond, ◌&&◌, List, map, Some, None, Option, ◌==◌, nat_le}
use Rattle.clocks.specs.Regions.{Clock, Part, clock, region_of, later, finer, restarted}
use Rattle.clocks.specs.Theorems.{held}
use Rattle.regions.specs.Types.{Ceilings}
use Rattle.regions.specs.Code.{limits, ceiled}
use Rattle.readings.specs.declared.scaled.Readings.{Readings}
use Rattle.readings.specs.Grains.{clocks_at}

-- what readings tell: ceilings, grains to the unit, and clocks, the tick clock last
pub record View : Type 0 where
  pub ceilings : Ceilings
  pub scale : ℕ
  pub clocks : List Clock

abbrev pub clocks_of : Readings → List Clock
clocks_of r = clocks_at r.ceilings r.grains

abbrev pub view : Readings → View
view r = record { ceilings = r.ceilings; scale = r.scale; clocks = clocks_of r }

-- a clock at zero; one that the game does not have reads 1, past its ceiling
abbrev pub fresh : ℕ → Clock
fresh c = clock c (cond (c == 0) 1 0)

-- at first all clocks are at zero, with one grain to the unit; no ceiling may be above 15
abbrev pub begun : Ceilings → Option View
begun c = cond (ceiled c) (Some (record { ceilings = c; scale = 1; clocks = map fresh (limits c) })) None

-- a factor from 2 to 1,000, and a new scale of at most 1,000,000
abbrev pub may_refine : ℕ → ℕ → Bool
may_refine k D = nat_le 2 k && (nat_le k 1000 && nat_le (k * D) 1000000)

-- a finer scale multiplies the scale and the readings
abbrev pub finer_by : ℕ → View → View
finer_by k v = record { ceilings = v.ceilings; scale = k * v.scale; clocks = finer k v.clocks }

abbrev pub refined : ℕ → View → Option View
refined k v = cond (may_refine k v.scale) (Some (finer_by k v)) None

-- with a delay all readings grow, and are held one unit above their ceilings
abbrev pub delayed : ℕ → View → View
delayed d v = record { ceilings = v.ceilings; scale = v.scale; clocks = held v.scale (later d v.clocks) }

-- the clocks that are marked go back to zero
abbrev pub reset : List Bool → View → View
reset bs v = record { ceilings = v.ceilings; scale = v.scale; clocks = restarted bs v.clocks }

-- the region of the readings
abbrev pub region_in : View → List Part
region_in v = region_of v.scale v.clocks
