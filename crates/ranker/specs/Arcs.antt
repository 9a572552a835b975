-- Arcs between rows, as a list: each is a passage that stands for all of its row with its colour and target.
use Rattle.std.specs.Prelude.{◌≡◌, ℕ, ◌<◌, List, length, slice_index_or}
use Rattle.plan.specs.declared.passage.Passage.{Passage}
use Rattle.loops.specs.Graph.{Graph, Closed}

-- arc k of a list; past its end one that is never read
abbrev pub arc_at : List Passage → ℕ → Passage
arc_at arcs k = slice_index_or arcs k (record { from = 0; outcome = 0; colour = 0; to = 0 })

-- the arc is an outcome of the graph
pub record IsArc (g : Graph) (a : Passage) : Type 0 where
  pub row : a.from < g.size
  pub outcome : a.outcome < g.count a.from
  pub colour : a.colour ≡ g.colour a.from a.outcome
  pub to : a.to ≡ g.to a.from a.outcome

-- arc k stands for outcome i of row s
pub record StandsFor (g : Graph) (arcs : List Passage) (s i k : ℕ) : Type 0 where
  pub there : k < length arcs
  pub row : (arc_at arcs k).from ≡ s
  pub colour : (arc_at arcs k).colour ≡ g.colour s i
  pub to : (arc_at arcs k).to ≡ g.to s i

-- the arcs tell of a closed graph of n rows: each is an outcome, and each outcome has one that stands for it
pub record Tells (n : ℕ) (arcs : List Passage) (g : Graph) : Type 0 where
  pub size : g.size ≡ n
  pub closed : Closed g
  pub true : (k : ℕ) → k < length arcs → IsArc g (arc_at arcs k)
  pub whole : (s i : ℕ) → s < g.size → i < g.count s → (k : ℕ) × StandsFor g arcs s i k

abbrev pub Told : ℕ → List Passage → Type 0
Told n arcs = (g : Graph) × Tells n arcs g
