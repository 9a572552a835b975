-- A move's outcomes in the order in which a listing gives them, one by one.
use Rattle.std.specs.Prelude.{ℕ, zero, suc, ◌+◌, ◌-◌, List, [], ◌++◌, length, Option}
use Rattle.arena.specs.declared.moves.Outcome.{Outcome}
use Rattle.clocks.specs.Regions.{Part, next, onward}
use Rattle.game.specs.Game.{Game, Place, each, their_edge, theirs_at}

module _ (g : Game) (l : ℕ) where
  -- their edges in the region q, from number i on
  abbrev pub edges_from : List Part → ℕ → List (Outcome Place)
  edges_from q i = each (length g.edges - i) (λ j. their_edge g l q (i + j))

  -- what they can do in this region, if there is one, and in each of the k regions after it
  abbrev pub theirs_over : ℕ → Option (List Part) → List (Outcome Place)
  theirs_over zero o = theirs_at g l o
  theirs_over (suc k) o = theirs_at g l o ++ theirs_over k (onward o)

  -- what they can do in the k regions after the region q
  abbrev pub theirs_after : ℕ → List Part → List (Outcome Place)
  theirs_after zero q = []
  theirs_after (suc k) q = theirs_over k (next q)
