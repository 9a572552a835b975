-- What the ranker owes.
use Rattle.std.specs.Prelude.{◌≡◌, ℕ, ◌*◌, ◌%◌, ◌<◌, ◌≤◌, Bool, ◌&&◌, ◌⊎◌, List, [], ◌∷◌, length, Ok, Err, Result, ◌==◌, nat_le}
use Rattle.arena.specs.Meaning.{Meaning}
use Rattle.table.specs.declared.row.Row.{Row}
use Rattle.table.specs.declared.accepted.Accepted.{Accepted}
use Rattle.table.specs.declared.fault.Fault.{Fault}
use Rattle.table.specs.declared.fault.Fault.TheVariants.{LosingLoop}
use Rattle.table.specs.declared.odd.OddColour.{OddColour}
use Rattle.table.specs.Odd.{odd}
use Rattle.table.specs.Ranks.{rank_of}
use Rattle.table.specs.Check.{faults, outcomes_in, checked}
use Rattle.loops.specs.declared.pair.Pair.{Pair}
use Rattle.loops.specs.Graph.{NoLoop}
use Rattle.loops.specs.Table.{graph_of, any_round, Loses}
use Rattle.ranker.specs.declared.error.RankError.{RankError}
use Rattle.ranker.specs.declared.error.RankError.TheVariants.{Memory, Refused}
use Rattle.ranker.specs.Lifts.{Smallest}
use Rattle.ranker.specs.Loops.{Written}

module _ {P : Type 0} (m : Meaning P) (rows : List (Row P)) (ranks : List ℕ) (losing : List Pair) where
  -- there are four ranks for each row, and at least as many pairs as rows
  abbrev pub fitting : Bool
  fitting = length ranks == 4 * length rows && nat_le (length rows) (length losing)

  -- the faults of a table that is not well formed
  abbrev pub form_faults : List Fault
  form_faults = faults m rows any_round fitting

  -- the ranks are filled in, for each odd colour the smallest that keep the rule, and the answer is the check's
  pub record Fills (r : Result Accepted Fault) (ranks' : List ℕ) (losing' : List Pair) : Type 0 where
    pub answer : r ≡ Ok (record { rows = length rows; outcomes = outcomes_in m rows })
    pub checks : checked m rows ranks' ≡ r
    pub smallest : (p : ℕ) → p % 2 ≡ 1 → p ≤ 7 → Smallest (graph_of m rows) p (rank_of ranks' (length rows) p)
    pub long : length ranks' ≡ length ranks
    pub rest : losing' ≡ losing

  -- a losing loop is written, of the smallest odd colour that is the largest of one
  pub record Refutes (r : Result Accepted Fault) (ranks' : List ℕ) (losing' : List Pair) : Type 0 where
    pub length : ℕ
    pub colour : OddColour
    pub answer : r ≡ Err (LosingLoop length (odd colour))
    pub written : Written (graph_of m rows) (odd colour) losing length losing'
    pub least : (p : ℕ) → p < odd colour → NoLoop (graph_of m rows) p
    pub rest : ranks' ≡ ranks

  -- what is answered and what the lists hold then, by the faults of form
  abbrev pub Ranked : List Fault → Result Accepted Fault → List ℕ → List Pair → Type 0
  Ranked (f ∷ fs) r ranks' losing' = (r ≡ Err f) × (ranks' ≡ ranks) × (losing' ≡ losing)
  Ranked [] r ranks' losing' = Fills r ranks' losing' ⊎ Refutes r ranks' losing'

  -- a table that is well formed and has no losing loop
  abbrev pub Sound : Type 0
  Sound = (form_faults ≡ []) × (Loses m rows → ⊥)

  -- the same where memory may be wanting, which leaves both lists as they were
  abbrev pub RankedOr : Result Accepted RankError → List ℕ → List Pair → Type 0
  RankedOr (Ok a) ranks' losing' = Ranked form_faults (Ok a) ranks' losing' × Sound
  RankedOr (Err Memory) ranks' losing' = (ranks' ≡ ranks) × (losing' ≡ losing)
  RankedOr (Err (Refused f)) ranks' losing' = Ranked form_faults (Err f) ranks' losing' × (Sound → ⊥)
