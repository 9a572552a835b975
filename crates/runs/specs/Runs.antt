-- Runs without end.
use Rattle.std.specs.Prelude.{◌≡◌, ℕ, zero, suc, ◌+◌, ◌<◌, ◌≤◌, Bool, true, false, cond, ◌⊎◌, List, Some}
use Rattle.std.specs.List.{slice_get}
use Rattle.arena.specs.Meaning.{Meaning}
use Rattle.arena.specs.declared.moves.Side.{Side}
use Rattle.arena.specs.declared.moves.Side.TheVariants.{Us, Them}
use Rattle.arena.specs.declared.moves.Outcome.{Outcome}
use Rattle.table.specs.declared.row.Row.{Row}
use Rattle.table.specs.Colours.{colour_of, latch_after}
use Rattle.table.specs.Rows.{first_row, outcomes_of}

-- at each moment the row of the position and latch, and some outcome of its move
pub record Endless {P : Type 0} (m : Meaning P) (rows : List (Row P)) : Type 0 where
  pub position : ℕ → P
  pub latch : ℕ → ℕ
  pub row : ℕ → ℕ
  pub number : ℕ → ℕ
  pub outcome : ℕ → Outcome P
  pub at_first : (position 0 ≡ m.start) × (latch 0 ≡ m.priority m.start)
  pub here : (k : ℕ) → first_row m rows (position k) (latch k) ≡ Some (row k)
  pub picked : (k : ℕ) (r : Row P) → slice_get rows (row k) ≡ Some r → slice_get (outcomes_of m r) (number k) ≡ Some (outcome k)
  pub then : (k : ℕ) → (position (suc k) ≡ (outcome k).position) × (latch (suc k) ≡ latch_after m (latch k) (outcome k))

module _ {P : Type 0} {m : Meaning P} {rows : List (Row P)} (run : Endless m rows) where
  abbrev pub ticks : ℕ → Bool
  ticks k = (run.outcome k).ticked

  abbrev pub colour_at : ℕ → ℕ
  colour_at k = colour_of (run.latch k) (run.outcome k)

  abbrev pub priority_at : ℕ → ℕ
  priority_at k = m.priority (run.position k)

  -- between moments i and j no round ticks
  abbrev pub NoTick : ℕ → ℕ → Type 0
  NoTick i j = (i ≤ j) × ((k : ℕ) → i ≤ k → k < j → ticks k ≡ false)

  -- moment k is the first after a tick, as the start is
  abbrev pub Begins : ℕ → Type 0
  Begins k = (k ≡ 0) ⊎ ((j : ℕ) × (suc j ≡ k) × (ticks j ≡ true))

-- whether a round is booked to us
abbrev pub is_us : Side → Bool
is_us Us = true
is_us Them = false

-- how many of the n moments from k on pass a test
abbrev pub times : (ℕ → Bool) → ℕ → ℕ → ℕ
times f k zero = 0
times f k (suc n) = cond (f k) 1 0 + times f (suc k) n
