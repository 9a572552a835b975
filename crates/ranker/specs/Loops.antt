-- A losing loop at the front of a list.
use Rattle.std.specs.Prelude.{◌≡◌, ℕ, ◌<◌, List, ◌++◌, length, drop, Ok, Err, Result}
use Rattle.table.specs.declared.fault.Fault.{Fault}
use Rattle.table.specs.declared.fault.Fault.TheVariants.{LosingLoop}
use Rattle.table.specs.declared.odd.OddColour.{OddColour}
use Rattle.table.specs.Odd.{odd}
use Rattle.table.specs.Ranks.{rank_of}
use Rattle.loops.specs.declared.pair.Pair.{Pair}
use Rattle.loops.specs.Graph.{Graph, Losing, NoLoop}
use Rattle.ranker.specs.Lifts.{rank_in, Smallest}

-- a losing loop of length k and largest colour p stands at the front, and what comes after it is as it was
pub record Written (g : Graph) (p : ℕ) (was : List Pair) (k : ℕ) (is : List Pair) : Type 0 where
  pub loop : List Pair
  pub losing : Losing g p loop
  pub long : length loop ≡ k
  pub front : is ≡ loop ++ drop k was

-- what the arcs come to for c: its smallest ranks, or a losing loop of it
abbrev pub DraftedFor : Graph → OddColour → List Pair → Result Unit Fault → List ℕ → List Pair → Type 0
DraftedFor g c was (Ok _) ranks is = Smallest g (odd c) (rank_in ranks)
DraftedFor g c was (Err f) ranks is = (k : ℕ) × (f ≡ LosingLoop k (odd c)) × Written g (odd c) was k is

-- what they come to for n rows: the smallest ranks for each odd colour, or a losing loop whose largest colour is the
-- smallest that a losing loop has
abbrev pub Drafted : Graph → ℕ → List Pair → Result Unit Fault → List ℕ → List Pair → Type 0
Drafted g n was (Ok _) draft is = (c : OddColour) → Smallest g (odd c) (rank_of draft n (odd c))
Drafted g n was (Err f) draft is = (k : ℕ) × (c : OddColour) × (f ≡ LosingLoop k (odd c)) × Written g (odd c) was k is × ((q : ℕ) → q < odd c → NoLoop g q)
