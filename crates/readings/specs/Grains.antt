-- Readings in grains, as a list of clocks with the tick clock last.
use Rattle.std.specs.Prelude.{ℕ, ◌+◌, ◌*◌, Bool, ◌&&◌, List, [], ◌∷◌, nat_le, nat_lt}
use Rattle.std.specs.List.{list_all}
use Rattle.clocks.specs.Regions.{Clock, clock}
use Rattle.regions.specs.Types.{Ceilings}
use Rattle.regions.specs.Code.{tick_ceiling, ceiled}
use Rattle.readings.specs.Types.{Grains}

abbrev pub clocks_at : Ceilings → Grains → List Clock
clocks_at c g = clock c.x g.x ∷ clock c.y g.y ∷ clock c.z g.z ∷ clock tick_ceiling g.tick ∷ []

-- a reading at most one unit above its ceiling
abbrev pub is_held : ℕ → Clock → Bool
is_held D x = nat_le x.reading ((x.ceiling + 1) * D)

-- there is a grain to the unit, and there are at most a million
abbrev pub is_scale : ℕ → Bool
is_scale D = nat_lt 0 D && nat_le D 1000000

-- ceilings, scale and readings keep their limits
abbrev pub readable : Ceilings → ℕ → Grains → Bool
readable c D g = ceiled c && (is_scale D && list_all (is_held D) (clocks_at c g))
