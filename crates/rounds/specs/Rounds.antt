-- A round on readings: both sides name a delay, and the shorter one is carried out.
use Rattle.std.specs.Prelude.{ℕ, Bool, cond, List, [], ◌∷◌, ◌++◌, Option, nat_le, nat_lt}
use Rattle.arena.specs.declared.moves.Side.{Side}
use Rattle.arena.specs.declared.moves.Side.TheVariants.{Us, Them}
use Rattle.arena.specs.declared.moves.Outcome.{Outcome}
use Rattle.clocks.specs.Regions.{Clock, region_of, later, restarted}
use Rattle.clocks.specs.Theorems.{held}
use Rattle.game.specs.Game.{Game, Place, place, to_of, resets_of, edge_at}

-- whose delay is carried out: the shorter one, and at a tie the named side's
abbrev pub winner : ℕ → ℕ → Side → Side
winner ours theirs tie = cond (nat_lt ours theirs) Us (cond (nat_lt theirs ours) Them tie)

abbrev pub of_side : {A : Type 0} → Side → A → A → A
of_side Us ours theirs = ours
of_side Them ours theirs = theirs

-- the tick clock, which is last, has reached a unit
abbrev pub last_reading : List Clock → ℕ
last_reading [] = 0
last_reading (x ∷ []) = x.reading
last_reading (x ∷ y ∷ xs) = last_reading (y ∷ xs)

abbrev pub ticked : ℕ → List Clock → Bool
ticked D xs = nat_le D (last_reading xs)

-- at D grains to the unit: readings after a delay grow, and are held where they are far past
abbrev pub delayed : ℕ → List Clock → ℕ → List Clock
delayed D xs d = held D (later d xs)

module _ (g : Game) (D l : ℕ) (xs : List Clock) where
  -- readings after a delay and an edge, or none: clocks are reset, and the tick clock too if it has reached a unit
  abbrev pub readings_after : ℕ → Option ℕ → List Clock
  readings_after d e = restarted (resets_of (edge_at g e) ++ ticked D (delayed D xs d) ∷ []) (delayed D xs d)

  -- what a delay and an edge, or none, of side s come to: the location then reached, and the region of the readings
  abbrev pub round_by : Side → ℕ → Option ℕ → Outcome Place
  round_by s d e =
      record { position = place (to_of l (edge_at g e)) (region_of D (readings_after d e)); ticked = ticked D (delayed D xs d); by = s }

  -- our delay and edge against theirs
  abbrev pub round_of : ℕ → Option ℕ → ℕ → Option ℕ → Side → Outcome Place
  round_of ours e theirs f tie = let s = winner ours theirs tie in round_by s (of_side s ours theirs) (of_side s e f)
