-- The passages of a table, in their order.
use Rattle.std.specs.Prelude.{◌≡◌, ℕ, ◌<◌, ◌≤◌, true, List, [], ◌∷◌, ◌++◌, is_ok, Some, None, Option, Result}
use Rattle.std.specs.List.{AllByRecursion}
use Rattle.arena.specs.Meaning.{Meaning}
use Rattle.arena.specs.declared.moves.Outcome.{Outcome}
use Rattle.table.specs.declared.row.Row.{Row}
use Rattle.table.specs.Colours.{colour_of}
use Rattle.table.specs.Rows.{row_after, outcomes_of}
use Rattle.table.specs.Check.{numbered}
use Rattle.plan.specs.declared.passage.Passage.{Passage}

-- outcome i of row s, which has colour c, if it leads to a row
abbrev pub passage_to : ℕ → ℕ → ℕ → Option ℕ → List Passage
passage_to s i c None = []
passage_to s i c (Some t) = record { from = s; outcome = i; colour = c; to = t } ∷ []

module _ {P : Type 0} (m : Meaning P) (rows : List (Row P)) where
  abbrev pub passage_at : ℕ → ℕ → ℕ → Outcome P → List Passage
  passage_at s latch i o = passage_to s i (colour_of latch o) (row_after m rows latch o)

  abbrev pub passages_at : ℕ → Row P → List Passage
  passages_at s r = numbered (passage_at s r.latch) 0 (outcomes_of m r)

  -- those of all rows
  abbrev pub passages_in : List Passage
  passages_in = numbered passages_at 0 rows

-- none comes from a row past s
abbrev pub UpTo : ℕ → List Passage → Type 0
UpTo s = AllByRecursion (λ x. x.from ≤ s)

-- what can come next after some passages of a table of n rows
pub record Next (n : ℕ) (before : List Passage) (x : Passage) : Type 0 where
  pub from : x.from < n
  pub to : x.to < n
  pub colour : x.colour ≤ 7
  pub last : UpTo x.from before

module _ {V : Type 0} (seen : V → ℕ → List Passage → Type 0) (n s : ℕ) where
  -- a visitor that was shown passages up to row s
  abbrev pub Ready : V → Type 0
  Ready v = (before : List Passage) × (seen v n before × UpTo s before)

  -- it was then shown some more, unless there is a fault
  abbrev pub Shown : {R E : Type 0} → List Passage → Result R E → V → V → Type 0
  Shown more r was is = is_ok r ≡ true → (before : List Passage) → seen was n before → UpTo s before → seen is n (before ++ more)
