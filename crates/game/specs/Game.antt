-- Timed games: own positions, legal moves of both sides, and the outcomes of a move of ours.
use Rattle.std.specs.Prelude.{ℕ, zero, suc, Bool, true, false, cond, not, ◌&&◌, ◌||◌, List, [], ◌∷◌, ◌++◌, map, length, Some, None, Option, ◌==◌, nat_le, nat_lt}
use Rattle.std.specs.List.{slice_get, list_all}
use Rattle.arena.specs.declared.moves.Side.{Side}
use Rattle.arena.specs.declared.moves.Side.TheVariants.{Us, Them}
use Rattle.arena.specs.declared.moves.Outcome.{Outcome}
use Rattle.clocks.specs.Regions.{Part, part, ranked, waits, zeroed}
use Rattle.regions.specs.Types.{Ceilings}
use Rattle.regions.specs.Code as code
use Rattle.regions.specs.Code.{is_own, ceiled}
use Rattle.game.specs.Types.{Zone, Resets}
use Rattle.game.specs.declared.parts.Location.{Location}
use Rattle.game.specs.declared.parts.Edge.{Edge}
use Rattle.game.specs.Intervals.{zone, fitting, holds}

-- The ceilings of three clocks, 0 for one that the game does not have; locations and edges go by their place from 0
pub record Game : Type 0 where
  pub ceilings : Ceilings
  pub locations : List Location
  pub edges : List Edge

abbrev pub game : Ceilings → List Location → List Edge → Game
game c ls es = record { ceilings = c; locations = ls; edges = es }

-- a location and a region, as a list of clocks with the tick clock last
pub record Place : Type 0 where
  pub location : ℕ
  pub region : List Part

abbrev pub place : ℕ → List Part → Place
place l r = record { location = l; region = r }

abbrev pub flags : Resets → List Bool
flags b = b.x ∷ b.y ∷ b.z ∷ []

-- the whole part of the last clock, the tick clock
abbrev pub last_whole : List Part → ℕ
last_whole [] = 0
last_whole (p ∷ []) = p.whole
last_whole (p ∷ q ∷ ps) = last_whole (q ∷ ps)

-- the tick clock has reached a unit
abbrev pub ticks : List Part → Bool
ticks r = nat_lt 0 (last_whole r)

abbrev pub is_us : Side → Bool
is_us Us = true
is_us Them = false

abbrev pub same_side : Side → Side → Bool
same_side Us s = is_us s
same_side Them s = not (is_us s)

-- whether a location's invariant holds; where there is no such location, it does not
abbrev pub invariant_of : Option Location → List Part → Bool
invariant_of None r = false
invariant_of (Some l) r = holds (zone l.invariant) r

-- where an edge, or no edge, leads from location l, and which clocks it resets
abbrev pub to_of : ℕ → Option Edge → ℕ
to_of l None = l
to_of l (Some e) = e.to

abbrev pub resets_of : Option Edge → List Bool
resets_of None = false ∷ false ∷ false ∷ []
resets_of (Some e) = flags e.resets

-- a move is carried out in the region q: clocks are reset, and the tick clock too if it has reached a unit; the classes close up
abbrev pub carried : List Bool → List Part → List Part
carried resets q = ranked (zeroed (resets ++ ticks q ∷ []) q)

-- a clock at zero; one that the game does not have stands past
abbrev pub fresh : ℕ → Part
fresh c = part c (cond (c == 0) 1 0) 0

abbrev pub limits : Game → List ℕ
limits g = code.limits g.ceilings

module _ (g : Game) where
  abbrev pub keeps : ℕ → List Part → Bool
  keeps l r = invariant_of (slice_get g.locations l) r

  -- A position is own when its location exists, its region is one of the game's clocks, the tick clock's whole part
  -- is 0, and the invariant holds
  abbrev pub owns : Place → Bool
  owns p = is_own p.region && (last_whole p.region == 0 && keeps p.location p.region)

  -- location 0 with all clocks at zero
  abbrev pub start : Place
  start = place 0 (map fresh (limits g))

  -- what a move of side s comes to, once the region q is reached
  abbrev pub result_of : Side → ℕ → Option Edge → List Part → Outcome Place
  result_of s l e q = record { position = place (to_of l e) (carried (resets_of e) q); ticked = ticks q; by = s }

  -- Side s may take an edge from location l in the region q: it is that side's, leaves here, has its guard met, and
  -- enters a location whose invariant holds after the resets
  abbrev pub fits : Side → ℕ → List Part → Edge → Bool
  fits s l q e =
      same_side e.side s
      && (e.from == l
      && (holds (zone e.guard) q
      && keeps e.to (carried (flags e.resets) q)))

  abbrev pub edge_fits : Side → ℕ → List Part → Option Edge → Bool
  edge_fits s l q None = false
  edge_fits s l q (Some e) = fits s l q e

  -- the edge of a number, if there is one; and whether a move may name this number, or none
  abbrev pub edge_at : Option ℕ → Option Edge
  edge_at None = None
  edge_at (Some i) = slice_get g.edges i

  abbrev pub may_take : Side → ℕ → List Part → Option ℕ → Bool
  may_take s l q None = true
  may_take s l q (Some i) = edge_fits s l q (slice_get g.edges i)

  -- a wait into the region q keeps the invariant, and the edge may be taken there
  abbrev pub welcome : Side → ℕ → Option ℕ → List Part → Bool
  welcome s l e q = keeps l q && may_take s l q e

  abbrev pub welcomed : Side → ℕ → Option ℕ → Option (List Part) → Bool
  welcomed s l e None = false
  welcomed s l e (Some q) = welcome s l e q

  -- A move is legal at an own position when its wait, of at most 96 steps, is allowed and its edge, if it names one, may be taken
  abbrev pub legal : Side → Place → ℕ → Option ℕ → Bool
  legal s p k e = owns p && (nat_le k 96 && welcomed s p.location e (waits k p.region))

-- f 0, f 1, …, f (n - 1)
abbrev pub each : {A : Type 0} → ℕ → (ℕ → List A) → List A
each zero f = []
each (suc n) f = each n f ++ f n

abbrev pub given : {A : Type 0} → Bool → A → List A
given b a = cond b (a ∷ []) []

module _ (g : Game) where
  -- their edge i in the region q, if they may take it
  abbrev pub their_edge : ℕ → List Part → ℕ → List (Outcome Place)
  their_edge l q i = given (may_take g Them l q (Some i)) (result_of g Them l (edge_at g (Some i)) q)

  -- their plain wait into the region q, and their edges there, by number
  abbrev pub theirs : ℕ → List Part → List (Outcome Place)
  theirs l q = result_of g Them l None q ∷ each (length g.edges) (their_edge l q)

  abbrev pub theirs_at : ℕ → Option (List Part) → List (Outcome Place)
  theirs_at l None = []
  theirs_at l (Some q) = theirs l q

  abbrev pub ours_at : ℕ → Option ℕ → Option (List Part) → List (Outcome Place)
  ours_at l e None = []
  ours_at l e (Some q) = result_of g Us l (edge_at g e) q ∷ []

  -- what our legal move of k steps can lead to: our move carried out, and then theirs after 0 to k steps
  abbrev pub outcomes : Place → ℕ → Option ℕ → List (Outcome Place)
  outcomes p k e = ours_at p.location e (waits k p.region) ++ each (suc k) (λ j. theirs_at p.location (waits j p.region))

-- each clock's interval is one for its ceiling
abbrev pub suits : Ceilings → Zone → Bool
suits c z = fitting c.x z.x && (fitting c.y z.y && fitting c.z z.z)

-- no clock is reset that is not there
abbrev pub resettable : ℕ → Bool → Bool
resettable c b = nat_lt 0 c || not b

abbrev pub resetting : Ceilings → Resets → Bool
resetting c b = resettable c.x b.x && (resettable c.y b.y && resettable c.z b.z)

-- the clocks that are there come first
abbrev pub in_turn : Ceilings → Bool
in_turn c = (nat_lt 0 c.x || c.y == 0) && (nat_lt 0 c.y || c.z == 0)

abbrev pub sound_location : Ceilings → Location → Bool
sound_location c l = nat_le l.priority 5 && suits c l.invariant

abbrev pub sound_edge : Ceilings → ℕ → Edge → Bool
sound_edge c n e = nat_lt e.from n && (nat_lt e.to n && (resetting c e.resets && suits c e.guard))

-- What a game must be: up to three clocks with ceilings up to 15, at most 32 locations with priorities up to 5, at most
-- 64 edges between them, intervals that contain a reading and stay within the ceilings, and a start that is an own position
abbrev pub sound : Game → Bool
sound g =
    ceiled g.ceilings
    && (in_turn g.ceilings
    && (nat_le (length g.locations) 32
    && (list_all (sound_location g.ceilings) g.locations
    && (nat_le (length g.edges) 64
    && (list_all (sound_edge g.ceilings (length g.locations)) g.edges
    && owns g (start g))))))
