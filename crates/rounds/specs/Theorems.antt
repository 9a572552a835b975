-- Rounds and outcomes, in both directions.
use Rattle.std.specs.Prelude.{◌≡◌, ℕ, ◌*◌, ◌<◌, ◌≤◌, true, List, map, Some, Option}
use Rattle.std.specs.List.{slice_get}
use Rattle.arena.specs.declared.moves.Side.{Side}
use Rattle.arena.specs.declared.moves.Side.TheVariants.{Us, Them}
use Rattle.arena.specs.declared.moves.Outcome.{Outcome}
use Rattle.clocks.specs.Regions.{Clock, region_of, waits, later, finer}
use Rattle.game.specs.Game.{Game, Place, place, limits, welcome, legal, outcomes, sound}
use Rattle.rounds.specs.Rounds.{round_of}

-- clocks with the game's ceilings
abbrev pub ClocksOf : Game → List Clock → Type 0
ClocksOf g xs = map (λ x. x.ceiling) xs ≡ limits g

-- our delay leads into the region of our move of k steps, and their move may be made where their delay leads
pub record Proposed (g : Game) (D l : ℕ) (xs : List Clock) (k ours theirs : ℕ) (f : Option ℕ) : Type 0 where
  pub hits : waits k (region_of D xs) ≡ Some (region_of D (later ours xs))
  pub answers : welcome g Them l f (region_of D (later theirs xs)) ≡ true

-- each round that is played is one of the outcomes
abbrev pub Played : Type 0
Played =
    (g : Game) → sound g ≡ true → (D l : ℕ) (xs : List Clock) (k : ℕ) (e : Option ℕ) → 0 < D → ClocksOf g xs
    → (ours theirs : ℕ) (f : Option ℕ) (tie : Side) → Proposed g D l xs k ours theirs f
    → (i : ℕ) × (slice_get (outcomes g (place l (region_of D xs)) k e) i ≡ Some (round_of g D l xs ours e theirs f tie))

-- each outcome of a legal move can be played at twice the scale, with delays of at most 16 units
abbrev pub Playable : Type 0
Playable =
    (g : Game) → sound g ≡ true → (D l : ℕ) (xs : List Clock) (k : ℕ) (e : Option ℕ) → 0 < D → ClocksOf g xs
    → legal g Us (place l (region_of D xs)) k e ≡ true
    → (i : ℕ) (o : Outcome Place) → slice_get (outcomes g (place l (region_of D xs)) k e) i ≡ Some o
    → (ours : ℕ) × (theirs : ℕ) × (f : Option ℕ) × (tie : Side)
    × (ours ≤ 16 * (2 * D)) × (theirs ≤ 16 * (2 * D))
    × Proposed g (2 * D) l (finer 2 xs) k ours theirs f
    × (round_of g (2 * D) l (finer 2 xs) ours e theirs f tie ≡ o)
