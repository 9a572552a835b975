-- What it means that a table is accepted with its ranks.
use Rattle.std.specs.Prelude.{◌≡◌, ℕ, ◌*◌, ◌%◌, ◌<◌, ◌≤◌, true, List, length, Some}
use Rattle.std.specs.List.{slice_get}
use Rattle.arena.specs.Meaning.{Meaning}
use Rattle.arena.specs.declared.moves.Outcome.{Outcome}
use Rattle.table.specs.declared.row.Row.{Row}
use Rattle.table.specs.Colours.{colour_of, latch_after}
use Rattle.table.specs.Rows.{StandsAt, outcomes_of}
use Rattle.table.specs.Ranks.{rank_of}

pub record Accepts {P : Type 0} (m : Meaning P) (rows : List (Row P)) (ranks : List ℕ) : Type 0 where
  -- at most 1,024 rows, and four ranks for each
  pub few : length rows ≤ 1024
  pub four : length ranks ≡ 4 * length rows
  -- every row stands at an own position, with a latch from the priority there to 5
  pub own : (s : ℕ) (r : Row P) → slice_get rows s ≡ Some r →
      (m.owns r.position ≡ true) × (m.priority r.position ≤ r.latch) × (r.latch ≤ 5)
  -- no two rows agree in position and latch
  pub apart : (s t : ℕ) (p : P) (l : ℕ) → StandsAt rows s p l → StandsAt rows t p l → s ≡ t
  -- the start has a row, with its priority as latch
  pub starts : (t : ℕ) × StandsAt rows t m.start (m.priority m.start)
  -- every row's move is legal
  pub legal : (s : ℕ) (r : Row P) → slice_get rows s ≡ Some r → m.legal r.position r.choice ≡ true
  -- every outcome of every row has a row, with the latch after it
  pub leads : (s i : ℕ) (r : Row P) (o : Outcome P) → slice_get rows s ≡ Some r → slice_get (outcomes_of m r) i ≡ Some o →
      (t : ℕ) × StandsAt rows t o.position (latch_after m r.latch o)
  -- the ranks of an odd colour never rise along an outcome of this or a smaller colour, and fall along one of this colour
  pub falls : (s i t p : ℕ) (r : Row P) (o : Outcome P) → slice_get rows s ≡ Some r → slice_get (outcomes_of m r) i ≡ Some o →
      StandsAt rows t o.position (latch_after m r.latch o) → p % 2 ≡ 1 → p ≤ 7 →
      (colour_of r.latch o ≤ p → rank_of ranks (length rows) p t ≤ rank_of ranks (length rows) p s)
      × (colour_of r.latch o ≡ p → rank_of ranks (length rows) p t < rank_of ranks (length rows) p s)
