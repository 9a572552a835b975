-- Ranks lifted from 0, one outcome at a time, and where the outcomes that lifted them lead.
use Rattle.std.specs.Prelude.{◌≡◌, ℕ, zero, suc, ◌<◌, ◌≤◌, List, [], ◌∷◌}
use Rattle.loops.specs.declared.pair.Pair.{Pair}
use Rattle.loops.specs.Graph.{Graph, due, Keeps}

-- The rank of row s stands by outcome i, of a colour up to p: it is no more than i asks for, and if it is just that, the
-- row that i leads to was lifted before s.
pub record StandsBy (g : Graph) (p : ℕ) (rank since : ℕ → ℕ) (s i : ℕ) : Type 0 where
  pub there : i < g.count s
  pub small : g.colour s i ≤ p
  pub most : rank s ≤ due g p rank s i
  pub before : rank s ≡ due g p rank s i → since (g.to s i) < since s

-- ranks for p on their way up from 0
pub record Lifted (g : Graph) (p : ℕ) (rank pick : ℕ → ℕ) : Type 0 where
  -- the moment at which each row was lifted last, all before this one
  pub since : ℕ → ℕ
  pub moment : ℕ
  pub past : (s : ℕ) → since s < moment
  -- a rank above 0 stands by the outcome picked
  pub stands : (s : ℕ) → s < g.size → 0 < rank s → StandsBy g p rank since s (pick s)
  -- no rank is above that of any ranks that keep the rule
  pub least : (other : ℕ → ℕ) → Keeps g p other → (s : ℕ) → s < g.size → rank s ≤ other s

-- the row that k of the outcomes picked lead to, one after the other
abbrev pub after : Graph → (ℕ → ℕ) → ℕ → ℕ → ℕ
after g pick zero s = s
after g pick (suc k) s = after g pick k (g.to s (pick s))

-- and the way there
abbrev pub way : Graph → (ℕ → ℕ) → ℕ → ℕ → List Pair
way g pick zero s = []
way g pick (suc k) s = record { row = s; outcome = pick s } ∷ way g pick k (g.to s (pick s))

-- row s lies on a ring of the outcomes picked, of at most n rows with ranks above 0
pub record OnRing (g : Graph) (rank pick : ℕ → ℕ) (n s : ℕ) : Type 0 where
  pub within : (k : ℕ) → after g pick k s < g.size
  pub lifted : (k : ℕ) → 0 < rank (after g pick k s)
  pub length : ℕ
  pub some : 0 < length
  pub few : length ≤ n
  pub back : after g pick length s ≡ s
