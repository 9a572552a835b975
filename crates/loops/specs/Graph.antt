-- Rows and outcomes as a graph with coloured arcs: its losing loops, and the ranks that rule them out.
use Rattle.std.specs.Prelude.{◌≡◌, ℕ, ◌+◌, ◌%◌, ◌<◌, ◌≤◌, max, cond, ◌≢◌, List, [], ◌∷◌, ◌==◌}
use Rattle.std.specs.List.{AllByRecursion}
use Rattle.loops.specs.declared.pair.Pair.{Pair}

-- Row s, below the size, has so many outcomes; outcome i of it has a colour and leads to a row.
pub record Graph : Type 0 where
  pub size : ℕ
  pub count : ℕ → ℕ
  pub colour : ℕ → ℕ → ℕ
  pub to : ℕ → ℕ → ℕ

-- every outcome leads to a row
abbrev pub Closed : Graph → Type 0
Closed g = (s i : ℕ) → s < g.size → i < g.count s → g.to s i < g.size

-- the pairs lead from row s to row t, each outcome to the next pair's row
abbrev pub Leads : Graph → ℕ → List Pair → ℕ → Type 0
Leads g s [] t = s ≡ t
Leads g s (e ∷ es) t = (e.row ≡ s) × (s < g.size) × (e.outcome < g.count s) × Leads g (g.to s e.outcome) es t

abbrev pub largest : Graph → List Pair → ℕ
largest g [] = 0
largest g (e ∷ es) = max (g.colour e.row e.outcome) (largest g es)

-- no row twice
abbrev pub Simple : List Pair → Type 0
Simple [] = Unit {0}
Simple (e ∷ es) = AllByRecursion (λ f. f.row ≢ e.row) es × Simple es

-- a losing loop: it leads back to its first row, has no row twice, and its largest colour is p, which is odd
pub record Losing (g : Graph) (p : ℕ) (loop : List Pair) : Type 0 where
  pub first : ℕ
  pub round : Leads g first loop first
  pub simple : Simple loop
  pub top : largest g loop ≡ p
  pub odd : p % 2 ≡ 1

-- no losing loop has the largest colour p
abbrev pub NoLoop : Graph → ℕ → Type 0
NoLoop g p = (loop : List Pair) → Losing g p loop → ⊥

-- what outcome i of row s asks of the rank of s for p: the rank of the row that it leads to, and one more when its colour is p
abbrev pub due : Graph → ℕ → (ℕ → ℕ) → ℕ → ℕ → ℕ
due g p rank s i = rank (g.to s i) + cond (g.colour s i == p) 1 0

-- the ranks keep the rule for p: no outcome of a colour up to p asks for more
abbrev pub Keeps : Graph → ℕ → (ℕ → ℕ) → Type 0
Keeps g p rank = (s i : ℕ) → s < g.size → i < g.count s → g.colour s i ≤ p → due g p rank s i ≤ rank s
