-- Rows and where they stand.
use Rattle.std.specs.Prelude.{◌≡◌, ℕ, suc, Bool, cond, ◌&&◌, List, [], ◌∷◌, Some, None, Option, ◌==◌}
use Rattle.std.specs.List.{slice_get}
use Rattle.std.specs.Option.{option_map}
use Rattle.arena.specs.Meaning.{Meaning}
use Rattle.arena.specs.declared.moves.Outcome.{Outcome}
use Rattle.table.specs.declared.row.Row.{Row}
use Rattle.table.specs.Colours.{latch_after}

-- row t stands at position p and latch l
pub record StandsAt {P : Type 0} (rows : List (Row P)) (t : ℕ) (p : P) (l : ℕ) : Type 0 where
  pub row : Row P
  pub there : slice_get rows t ≡ Some row
  pub position : row.position ≡ p
  pub latch : row.latch ≡ l

-- the test of it, for a row at hand
abbrev pub is_for : {P : Type 0} → Meaning P → P → ℕ → Row P → Bool
is_for m p l r = r.latch == l && m.same r.position p

-- the number of the first row that stands at position p and latch l
abbrev pub first_row : {P : Type 0} → Meaning P → List (Row P) → P → ℕ → Option ℕ
first_row m [] p l = None
first_row m (r ∷ rows) p l = cond (is_for m p l r) (Some 0) (option_map suc (first_row m rows p l))

-- the row of the start, with its priority as latch
abbrev pub start_row : {P : Type 0} → Meaning P → List (Row P) → Option ℕ
start_row m rows = first_row m rows m.start (m.priority m.start)

-- the row that an outcome leads to, in a round that begins with this latch
abbrev pub row_after : {P : Type 0} → Meaning P → List (Row P) → ℕ → Outcome P → Option ℕ
row_after m rows latch o = first_row m rows o.position (latch_after m latch o)

-- all outcomes of a row's move
abbrev pub outcomes_of : {P : Type 0} → Meaning P → Row P → List (Outcome P)
outcomes_of m r = m.outcomes r.position r.choice
