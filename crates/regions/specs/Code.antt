-- The program's regions as lists of clocks, the tick clock last.
use Rattle.std.specs.Prelude.{ℕ, ◌+◌, ◌≤◌, Bool, ◌&&◌, ◌||◌, List, [], ◌∷◌, ◌==◌, nat_le, nat_lt}
use Rattle.std.specs.List.{list_all}
use Rattle.clocks.specs.Regions.{Part, part, seen, upto, top}
use Rattle.regions.specs.declared.region.ClockRegion.{ClockRegion}
use Rattle.regions.specs.Types.{Ceilings, Region, Restart}

abbrev pub part_of : ℕ → ClockRegion → Part
part_of c m = part c m.whole m.class

-- the tick clock's ceiling
abbrev pub tick_ceiling : ℕ
tick_ceiling = 1

abbrev pub parts : Ceilings → Region → List Part
parts c r = part_of c.x r.x ∷ part_of c.y r.y ∷ part_of c.z r.z ∷ part_of tick_ceiling r.tick ∷ []

-- the same where ceilings do not matter, as for the classes
abbrev pub unceiled : Region → List Part
unceiled r = parts (record { x = 0; y = 0; z = 0 }) r

abbrev pub limits : Ceilings → List ℕ
limits c = c.x ∷ c.y ∷ c.z ∷ tick_ceiling ∷ []

abbrev pub flags : Restart → List Bool
flags b = b.x ∷ b.y ∷ b.z ∷ b.tick ∷ []

-- a whole part is at most one past the ceiling, and a positive class stands only below it
abbrev pub within : Part → Bool
within p = nat_le p.whole (p.ceiling + 1) && (p.rest == 0 || nat_lt p.whole p.ceiling)

-- the parts are those of a region: classes run from 1 without a gap
abbrev pub is_own : List Part → Bool
is_own r = list_all within r && upto (seen r) (top r) == top r

-- no ceiling is above 15 units
abbrev pub ceiled : Ceilings → Bool
ceiled c = list_all (λ u. nat_le u 15) (limits c)

-- the whole parts and classes are those of a region of clocks with these ceilings
abbrev pub proper : Ceilings → Region → Bool
proper c r = ceiled c && is_own (parts c r)

-- small enough to count on
abbrev pub Small : ℕ → ClockRegion → Type 0
Small c m = (c ≤ 15) × (m.whole ≤ 16) × (m.class ≤ 4)

abbrev pub Smalls : Ceilings → Region → Type 0
Smalls c r = Small c.x r.x × Small c.y r.y × Small c.z r.z × Small tick_ceiling r.tick
