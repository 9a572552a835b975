-- Intervals of clocks: whether they contain a reading, and where a clock meets them.
use Rattle.std.specs.Prelude.{ℕ, ◌*◌, Bool, true, false, not, ◌&&◌, ◌||◌, List, [], ◌∷◌, Some, None, Option, ◌==◌, nat_le, nat_lt}
use Rattle.clocks.specs.Regions.{Part, Clock}
use Rattle.game.specs.declared.bounds.Bound.{Bound}
use Rattle.game.specs.declared.bounds.Bounds.{Bounds}
use Rattle.game.specs.Types.{Zone}

abbrev pub zone : Zone → List Bounds
zone z = z.x ∷ z.y ∷ z.z ∷ []

-- The interval contains a reading, fractions counted: without an upper end always; else the upper number is larger,
-- or both are the same and neither end is open
abbrev pub reaches : Bound → Option Bound → Bool
reaches low None = true
reaches low (Some high) = nat_lt low.at high.at || (low.at == high.at && (not low.open && not high.open))

abbrev pub inhabited : Bounds → Bool
inhabited b = reaches b.low b.high

-- no number is above the ceiling
abbrev pub up_to : ℕ → Option Bound → Bool
up_to c None = true
up_to c (Some high) = nat_le high.at c

abbrev pub bounded : ℕ → Bounds → Bool
bounded c b = nat_le b.low.at c && up_to c b.high

-- `[0,-)`
abbrev pub unending : Option Bound → Bool
unending None = true
unending (Some high) = false

abbrev pub everywhere : Bounds → Bool
everywhere b = b.low.at == 0 && (not b.low.open && unending b.high)

-- an interval for a clock with ceiling c, where 0 is the ceiling of a clock that is not there
abbrev pub fitting : ℕ → Bounds → Bool
fitting c b = inhabited b && (bounded c b && (nat_lt 0 c || everywhere b))

-- A clock equals b when its whole part is b and its class 0, and is above b when its whole part is above b, or is b
-- with a positive class
abbrev pub equals : ℕ → Part → Bool
equals b p = p.whole == b && p.rest == 0

abbrev pub exceeds : ℕ → Part → Bool
exceeds b p = nat_lt b p.whole || (p.whole == b && nat_lt 0 p.rest)

-- the clock is not before the lower end, and not after the upper end
abbrev pub meets_low : Bound → Part → Bool
meets_low low p = exceeds low.at p || (not low.open && equals low.at p)

abbrev pub meets_high : Option Bound → Part → Bool
meets_high None p = true
meets_high (Some high) p = not (exceeds high.at p) && (not high.open || not (equals high.at p))

abbrev pub meets : Bounds → Part → Bool
meets b p = meets_low b.low p && meets_high b.high p

-- each clock meets its interval; the tick clock, which is last, has none
abbrev pub holds : List Bounds → List Part → Bool
holds [] ps = true
holds (b ∷ bs) [] = false
holds (b ∷ bs) (p ∷ ps) = meets b p && holds bs ps

-- the same of a reading of x grains, at D grains to the unit
abbrev pub inside_low : ℕ → Bound → ℕ → Bool
inside_low D low x = nat_lt (low.at * D) x || (not low.open && x == low.at * D)

abbrev pub inside_high : ℕ → Option Bound → ℕ → Bool
inside_high D None x = true
inside_high D (Some high) x = nat_lt x (high.at * D) || (not high.open && x == high.at * D)

abbrev pub inside : ℕ → Bounds → ℕ → Bool
inside D b x = inside_low D b.low x && inside_high D b.high x

abbrev pub insides : ℕ → List Bounds → List Clock → Bool
insides D [] xs = true
insides D (b ∷ bs) [] = false
insides D (b ∷ bs) (x ∷ xs) = inside D b x.reading && insides D bs xs
