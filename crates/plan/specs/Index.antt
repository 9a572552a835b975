-- An index of rows by buckets.
use Rattle.std.specs.Prelude.{◌≡◌, ℕ, suc, ◌+◌, ◌*◌, ◌%◌, ◌<◌, ◌≤◌, List, None, Some, Option, drop, ◌==◌, slice_index_or}
use Rattle.std.specs.List.{slice_get, position_from}
use Rattle.arena.specs.Meaning.{Meaning}
use Rattle.table.specs.declared.row.Row.{Row}

-- the bucket of a position and latch
abbrev pub bucket_of : {P : Type 0} → Meaning P → P → ℕ → ℕ
bucket_of m p l = (m.digest p + 163 * l) % 1021

abbrev pub bucket_at : {P : Type 0} → Meaning P → Row P → ℕ
bucket_at m r = bucket_of m r.position r.latch

-- the first row of bucket b from row s on
abbrev pub next_in : {P : Type 0} → Meaning P → List (Row P) → ℕ → ℕ → Option ℕ
next_in m rows b s = position_from (λ r. bucket_at m r == b) s (drop s rows)

-- of the rows from s on, heads tells the first of each bucket, and links for each row the next of its bucket
abbrev pub Indexes : {P : Type 0} → Meaning P → List (Row P) → ℕ → List (Option ℕ) → List (Option ℕ) → Type 0
Indexes m rows s heads links =
    ((b : ℕ) → b < 1021 → slice_index_or heads b None ≡ next_in m rows b s)
    × ((k : ℕ) (r : Row _) → s ≤ k → slice_get rows k ≡ Some r → slice_index_or links k None ≡ next_in m rows (bucket_at m r) (suc k))
