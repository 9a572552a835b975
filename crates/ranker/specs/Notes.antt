-- Arcs noted from the passages shown so far.
use Rattle.std.specs.Prelude.{◌≡◌, ℕ, ◌+◌, ◌*◌, ◌<◌, ◌≤◌, Bool, false, List, length, count_by, Option, Some, None, ◌==◌, slice_index_or}
use Rattle.std.specs.List.{ContainsAt, AllByRecursion}
use Rattle.plan.specs.declared.passage.Passage.{Passage}
use Rattle.plan.specs.Passages.{UpTo}
use Rattle.table.specs.declared.row.TheConstants.{MAX_ROWS}
use Rattle.ranker.specs.declared.scratch.TheConstants.{COLOURS, KEYS}
use Rattle.ranker.specs.Arcs.{arc_at}

-- the place of a target and colour among the stamps
abbrev pub key_of : ℕ → ℕ → ℕ
key_of to colour = to * COLOURS + colour

-- a passage of a table of n rows
pub record Proper (n : ℕ) (x : Passage) : Type 0 where
  pub from : x.from < n
  pub to : x.to < n
  pub colour : x.colour ≤ 7

-- arc k stands for passage x
pub record Stands (arcs : List Passage) (x : Passage) (k : ℕ) : Type 0 where
  pub there : k < length arcs
  pub row : (arc_at arcs k).from ≡ x.from
  pub colour : (arc_at arcs k).colour ≡ x.colour
  pub to : (arc_at arcs k).to ≡ x.to

-- the stamp tells of row s
abbrev pub is_of : ℕ → Option ℕ → Bool
is_of s None = false
is_of s (Some v) = v == s

-- arc k is one of row v that has this key
pub record Keyed (arcs : List Passage) (key v k : ℕ) : Type 0 where
  pub there : k < length arcs
  pub row : (arc_at arcs k).from ≡ v
  pub keyed : key_of (arc_at arcs k).to (arc_at arcs k).colour ≡ key

-- The arcs of some passages of a table of n rows: each was one of them, and each of them has one that stands for it. The
-- stamps tell for each key the row of the last such arc; no row has more arcs than there are keys.
pub record Noted (n : ℕ) (before : List Passage) (arcs : List Passage) (stamps : List (Option ℕ)) : Type 0 where
  pub few : n ≤ MAX_ROWS
  pub keys : length stamps ≡ KEYS
  pub proper : AllByRecursion (Proper n) before
  pub true : (k : ℕ) → k < length arcs → ContainsAt before (arc_at arcs k)
  pub whole : (x : Passage) → ContainsAt before x → (k : ℕ) × Stands arcs x k
  pub stamped : (key v : ℕ) → slice_index_or stamps key None ≡ Some v → (k : ℕ) × Keyed arcs key v k
  pub spare : (s : ℕ) → UpTo s before → length arcs ≤ KEYS * s + count_by (is_of s) stamps
