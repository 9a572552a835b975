-- Fewer than three clocks: a clock that the game does not have is one with ceiling 0 that stands past it.
use Rattle.std.specs.Prelude.{◌≡◌, ℕ, ◌<◌, ◌≤◌, Bool, true, false, List, map, length, Option}
use Rattle.std.specs.Option.{option_map}
use Rattle.std.specs.List.{insert, AllByRecursion}
use Rattle.clocks.specs.Regions.{Part, next, waits, ranked, zeroed}
use Rattle.game.specs.declared.bounds.Bounds.{Bounds}
use Rattle.game.specs.Intervals.{everywhere, holds}
use Rattle.game.specs.Game.{Game, place, start, outcomes, limits, sound}

abbrev pub Past : Part → Type 0
Past p = (p.ceiling < p.whole) × (p.rest ≡ 0)

-- A clock that stands past changes nothing for the others, at whatever place i among them: not their next regions and
-- waits, nor their resets while it is not reset itself, nor what intervals hold while its own is `[0,-)`
pub record Unseen (p : Part) (r : List Part) (i : ℕ) : Type 0 where
  pub nexts : next (insert r i p) ≡ option_map (λ q. insert q i p) (next r)
  pub waited : (n : ℕ) → waits n (insert r i p) ≡ option_map (λ q. insert q i p) (waits n r)
  pub resets : (bs : List Bool) → i ≤ length bs → ranked (zeroed (insert bs i false) (insert r i p)) ≡ insert (ranked (zeroed bs r)) i p
  pub intervals : (bs : List Bounds) (b : Bounds) → i ≤ length bs → everywhere b ≡ true → holds (insert bs i b) (insert r i p) ≡ holds bs r

abbrev pub Absent : Type 0
Absent = (p : Part) (r : List Part) (i : ℕ) → Past p → i ≤ length r → Unseen p r i

-- a clock that is not there stands past: at whole part 1, and class 0
abbrev pub AbsentPast : Part → Type 0
AbsentPast p = p.ceiling ≡ 0 → (p.whole ≡ 1) × (p.rest ≡ 0)

-- the clocks that are not there stand past at the start, and from where they do they stand past in every outcome
abbrev pub StayAbsent : Type 0
StayAbsent =
    (g : Game) → sound g ≡ true
    → AllByRecursion AbsentPast (start g).region
    × ((l : ℕ) (r : List Part) (k : ℕ) (e : Option ℕ) → map (λ p. p.ceiling) r ≡ limits g → AllByRecursion AbsentPast r
    → AllByRecursion (λ o. AllByRecursion AbsentPast o.position.region) (outcomes g (place l r) k e))
