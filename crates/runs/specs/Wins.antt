-- The law over runs of an accepted table.
use Rattle.std.specs.Prelude.{◌≡◌, ℕ, ◌%◌, ◌<◌, ◌≤◌, true, false, ◌&&◌, ◌⊎◌, List, length, Some, Ok, Err, ◌==◌, nat_eq}
use Rattle.std.specs.List.{slice_get}
use Rattle.arena.specs.Meaning.{Meaning}
use Rattle.arena.specs.declared.moves.Outcome.{Outcome}
use Rattle.table.specs.declared.row.Row.{Row}
use Rattle.table.specs.declared.fault.Fault.{Fault}
use Rattle.table.specs.declared.fault.Fault.TheVariants.{NoOutcome, TooManyRounds}
use Rattle.table.specs.Rows.{outcomes_of}
use Rattle.runs.specs.Walk.{row_here, taken, reading, Call, History, begun, after}
use Rattle.runs.specs.Counted.{last_position, last_latch, colours, counted, tally_of}
use Rattle.runs.specs.Runs.{Endless, ticks, colour_at, priority_at, NoTick, Begins, is_us, times}

-- how a walk stands after some calls, and what it answers to the next
pub record Stands {P : Type 0} (m : Meaning P) (rows : List (Row P)) (h : History P) : Type 0 where
  -- it is where the last round led, with the latch that the rounds left
  pub position : h.walk.position ≡ last_position m h.past
  pub latch : h.walk.latch ≡ last_latch m h.past
  -- it has a row, whose move is legal
  pub row : Row P
  pub here : row_here m rows h.walk ≡ Some row
  pub legal : m.legal row.position row.choice ≡ true
  -- until the last round every outcome of that move can be taken
  pub goes : (i : ℕ) (o : Outcome P) → length h.past < 1000000 → slice_get (outcomes_of m row) i ≡ Some o → taken m rows i h.walk ≡ Ok o
  -- a step is refused only for a round too many or an outcome that is not there
  pub stays : (i : ℕ) (f : Fault) → taken m rows i h.walk ≡ Err f →
      ((f ≡ TooManyRounds) × (1000000 ≤ length h.past)) ⊎ ((f ≡ NoOutcome) × (length (outcomes_of m row) ≤ i))
  -- a tally reads what is counted from the rounds so far
  pub reads : reading h.walk ≡ counted m h.past
  -- and no tally of an odd colour reaches the number of rows
  pub few : (p : ℕ) → p % 2 ≡ 1 → p ≤ 7 → tally_of p (colours m h.past) < length rows

pub record Wins {P : Type 0} (m : Meaning P) (rows : List (Row P)) : Type 0 where
  -- however a new walk is called, it never gets stuck, and its tallies are counted and stay below the number of rows
  pub walks : (calls : List Call) → Stands m rows (after m rows (begun m) calls)
  -- however the outcomes are picked, a run goes on for ever: pick k n is the number that is picked at moment k out of n
  pub runs : (pick : ℕ → ℕ → ℕ) → ((k n : ℕ) → 1 ≤ n → pick k n < n) →
      (run : Endless m rows) × ((k : ℕ) (r : Row P) → slice_get rows (run.row k) ≡ Some r → run.number k ≡ pick k (length (outcomes_of m r)))
  -- the latch is the largest priority since the last tick
  pub latches : (run : Endless m rows) (j : ℕ) →
      ((i : ℕ) → NoTick run i j → priority_at run i ≤ run.latch j) × ((i : ℕ) × NoTick run i j × (priority_at run i ≡ run.latch j))
  -- no odd colour is the largest for ever: from a moment on after which none is larger, it comes fewer times than there are rows
  pub colours : (run : Endless m rows) (p k : ℕ) → p % 2 ≡ 1 → ((j : ℕ) → k ≤ j → colour_at run j ≤ p) →
      (n : ℕ) → times (λ j. nat_eq p (colour_at run j)) k n < length rows
  -- if time stops, we are not to blame: from a moment on after which no round ticks, fewer rounds are ours than there are rows
  pub stops : (run : Endless m rows) (k : ℕ) → ((j : ℕ) → k ≤ j → ticks run j ≡ false) →
      (n : ℕ) → times (λ j. is_us (run.outcome j).by) k n < length rows
  -- if time goes on, no odd priority is the largest that comes again and again: from a tick on after which no priority is above q,
  -- fewer ticks end a stretch with a q than there are rows
  pub goes : (run : Endless m rows) (q k : ℕ) → q % 2 ≡ 1 → Begins run k → ((j : ℕ) → k ≤ j → priority_at run j ≤ q) →
      (n : ℕ) → times (λ j. ticks run j && q == run.latch j) k n < length rows
