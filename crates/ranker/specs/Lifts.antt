-- Ranks of one colour on their way up from 0, as lists.
use Rattle.std.specs.Prelude.{◌≡◌, ℕ, ◌+◌, ◌-◌, ◌<◌, ◌≤◌, cond, List, length, Some, None, sum_by, Option, ◌==◌, slice_index, slice_index_or, unwrap_or, option_map, MatchOption}
use Rattle.std.specs.Iterator.{Yields}
use Rattle.std.specs.List.{ContainsAt}
use Rattle.plan.specs.declared.passage.Passage.{Passage}
use Rattle.loops.specs.Graph.{Graph, Keeps}
use Rattle.loops.specs.Lifting.{Lifted, OnRing}
use Rattle.ranker.specs.Arcs.{arc_at, Tells}

-- the rank of row s
abbrev pub rank_in : List ℕ → ℕ → ℕ
rank_in ranks s = slice_index ranks s

-- the place of the arc that lifted row s last, if any has
abbrev pub place_in : List (Option ℕ) → ℕ → Option ℕ
place_in by s = slice_index_or by s None

-- that arc
abbrev pub lifter_in : List Passage → List (Option ℕ) → ℕ → Option Passage
lifter_in arcs by s = option_map (arc_at arcs) (place_in by s)

-- its outcome; for a row that none has lifted one that is never read
abbrev pub pick_in : List Passage → List (Option ℕ) → ℕ → ℕ
pick_in arcs by s = (arc_at arcs (unwrap_or (place_in by s) 0)).outcome

-- what an arc asks of the rank of its row for p
abbrev pub due_by : ℕ → List ℕ → Passage → ℕ
due_by p ranks a = rank_in ranks a.to + cond (a.colour == p) 1 0

-- the arc asks for no more than the rank of its row, if its colour is up to p
abbrev pub Met : ℕ → List ℕ → Passage → Type 0
Met p ranks a = a.colour ≤ p → due_by p ranks a ≤ rank_in ranks a.from

abbrev pub Below : List ℕ → Type 0
Below ranks = (s : ℕ) → s < length ranks → rank_in ranks s < length ranks

-- by how much the ranks can rise
abbrev pub slack : List ℕ → ℕ
slack ranks = sum_by (λ r. length ranks - r) ranks

-- a row above 0 was lifted last by an arc of its own, and a row at 0 by none
abbrev pub Owned : List Passage → List ℕ → List (Option ℕ) → Type 0
Owned arcs ranks by = (s : ℕ) → s < length ranks → MatchOption (place_in by s) (rank_in ranks s ≡ 0) (λ k. (0 < rank_in ranks s) × (k < length arcs) × ((arc_at arcs k).from ≡ s))

-- the ranks are lifted for p, in every graph that the arcs tell of
abbrev pub LiftedBy : List Passage → ℕ → List ℕ → List (Option ℕ) → Type 0
LiftedBy arcs p ranks by = (g : Graph) → Tells (length ranks) arcs g → ∥ Lifted g p (rank_in ranks) (pick_in arcs by) ∥₁

-- row s lies on a ring of the arcs that lifted it and the next
abbrev pub OnRings : List Passage → List ℕ → List (Option ℕ) → ℕ → Type 0
OnRings arcs ranks by s = (g : Graph) → Tells (length ranks) arcs g → OnRing g (rank_in ranks) (pick_in arcs by) (length ranks) s

-- the numbers given from s on are below n, and when they end each of those was given
pub record Covers {S : Type 0} (steps : S → Option ℕ → S → Type 0) (s : S) (n : ℕ) : Type 0 where
  pub within : (ks : List ℕ) (t u : S) (k : ℕ) → Yields steps s ks t → steps t (Some k) u → k < n
  pub whole : (ks : List ℕ) (t u : S) → Yields steps s ks t → steps t None u → (k : ℕ) → k < n → ContainsAt ks k

-- how the ranks have moved: not at all, and M holds of them, or row s was lifted last
abbrev pub Moved : (List ℕ → Type 0) → List ℕ → List ℕ → Option ℕ → Type 0
Moved M was ranks None = (ranks ≡ was) × M ranks
Moved M was ranks (Some s) = (s < length ranks) × (slack ranks < slack was) × (rank_in ranks s < length ranks → Below ranks)

-- every arc is met
abbrev pub AllMet : List Passage → ℕ → List ℕ → Type 0
AllMet arcs p ranks = (k : ℕ) → k < length arcs → Met p ranks (arc_at arcs k)

-- the smallest ranks that keep the rule for p
pub record Smallest (g : Graph) (p : ℕ) (rank : ℕ → ℕ) : Type 0 where
  pub keeps : Keeps g p rank
  pub below : (s : ℕ) → s < g.size → rank s < g.size
  pub least : (other : ℕ → ℕ) → Keeps g p other → (s : ℕ) → s < g.size → rank s ≤ other s

abbrev pub AllSmallest : List Passage → ℕ → List ℕ → Type 0
AllSmallest arcs p ranks = (g : Graph) → Tells (length ranks) arcs g → Smallest g p (rank_in ranks)
