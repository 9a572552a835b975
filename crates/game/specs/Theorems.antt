-- What holds of timed games, beside the laws of an arena.
use Rattle.std.specs.Prelude.{◌≡◌, ℕ, ◌+◌, ◌<◌, ◌≤◌, Bool, true, ◌&&◌, List, [], ◌∷◌, ◌++◌, map, length, Some, None, Option}
use Rattle.arena.specs.declared.moves.Side.{Side}
use Rattle.arena.specs.declared.moves.Side.TheVariants.{Them}
use Rattle.clocks.specs.Regions.{Clock, Part, region_of, waits}
use Rattle.game.specs.declared.bounds.Bounds.{Bounds}
use Rattle.game.specs.Types.{Zone}
use Rattle.game.specs.Intervals.{zone, inhabited, bounded, holds, inside, insides}
use Rattle.game.specs.Game.{Game, Place, place, limits, owns, welcome, legal, result_of, their_edge, ours_at, outcomes, suits, sound}
use Rattle.game.specs.Start.{well_made, starts_at_zero}
use Rattle.game.specs.Listing.{edges_from, theirs_over, theirs_after}

-- an interval is inhabited exactly when it contains a reading at some scale, and two grains to the unit are fine enough
abbrev pub Inhabited : Type 0
Inhabited =
    (b : Bounds)
    → (inhabited b ≡ true → (x : ℕ) × (inside 2 b x ≡ true))
    × ((D x : ℕ) → 0 < D → inside D b x ≡ true → inhabited b ≡ true)

-- no interval has a number above its clock's ceiling
abbrev pub bounded_by : List Bounds → List ℕ → Bool
bounded_by [] cs = true
bounded_by (b ∷ bs) [] = true
bounded_by (b ∷ bs) (c ∷ cs) = bounded c b && bounded_by bs cs

-- a region tells whether the readings are inside such intervals
abbrev pub Measured : Type 0
Measured =
    (D : ℕ) (bs : List Bounds) (xs : List Clock) → 0 < D → bounded_by bs (map (λ x. x.ceiling) xs) ≡ true
    → holds bs (region_of D xs) ≡ insides D bs xs

-- and those of a sound game's invariants and guards are such
abbrev pub Suited : Type 0
Suited = (g : Game) (z : Zone) → suits g.ceilings z ≡ true → bounded_by (zone z) (limits g) ≡ true

-- from an own position no wait has more than 96 steps, so that a move is legal just where it is welcome
abbrev pub Short : Type 0
Short =
    (g : Game) → sound g ≡ true → (l : ℕ) (r : List Part) → map (λ p. p.ceiling) r ≡ limits g → owns g (place l r) ≡ true
    → (n : ℕ) (q : List Part) → waits n r ≡ Some q
    → (n ≤ 96) × ((s : Side) (e : Option ℕ) → legal g s (place l r) n e ≡ welcome g s l e q)

-- a game is sound when it is well made and zero is inside every interval of its first location
abbrev pub Starts : Type 0
Starts = (g : Game) → sound g ≡ (well_made g && starts_at_zero g.locations)

-- Outcomes in the order of a listing: ours, and then theirs, region by region;
abbrev pub Listed : Type 0
Listed =
    (g : Game) (p : Place) (k : ℕ) (e : Option ℕ)
    → outcomes g p k e ≡ ours_at g p.location e (waits k p.region) ++ theirs_over g p.location k (Some p.region)

-- in a region their plain wait, their edges by number, and then the later regions
abbrev pub ByRegion : Type 0
ByRegion =
    (g : Game) (l k : ℕ) (q : List Part)
    → theirs_over g l k (Some q) ≡ result_of g Them l None q ∷ edges_from g l q 0 ++ theirs_after g l k q

-- where there is no region there is nothing; and edges come one by one
abbrev pub Beyond : Type 0
Beyond = (g : Game) (l k : ℕ) → theirs_over g l k None ≡ []

abbrev pub ByEdge : Type 0
ByEdge =
    (g : Game) (l : ℕ) (q : List Part) (i : ℕ)
    → (i < length g.edges → edges_from g l q i ≡ their_edge g l q i ++ edges_from g l q (i + 1))
    × (length g.edges ≤ i → edges_from g l q i ≡ [])
