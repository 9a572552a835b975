-- An arena by its answers, and the laws that they keep.
use Rattle.std.specs.Prelude.{◌≡◌, ℕ, ◌≤◌, Bool, true, false, List, [], length, Decides}
use Rattle.std.specs.List.{AllByRecursion}
use Rattle.arena.specs.declared.moves.Move.{Move}
use Rattle.arena.specs.declared.moves.Outcome.{Outcome}

-- All answers of an arena as one fixed value. A move's outcomes are a list: their number is its length, and the
-- outcome at a number is its element there, so that a number not below the count has none.
pub record Meaning (P : Type 0) : Type 0 where
  pub start : P
  pub same : P → P → Bool
  pub digest : P → ℕ
  pub owns : P → Bool
  pub priority : P → ℕ
  pub label : P → ℕ
  pub legal : P → Move → Bool
  pub outcomes : P → Move → List (Outcome P)

pub record Lawful {P : Type 0} (m : Meaning P) : Type 0 where
  -- the test of positions is true exactly for one and the same
  pub decides : (p q : P) → Decides (m.same p q) (p ≡ q)
  -- the start is an own position
  pub starts : m.owns m.start ≡ true
  -- a legal move stands at an own position and waits at most 96 steps; it has 1 to 65,535 outcomes, and each leads to an own position
  pub stands : (p : P) (v : Move) → m.legal p v ≡ true → m.owns p ≡ true
  pub waits : (p : P) (v : Move) → m.legal p v ≡ true → v.steps ≤ 96
  pub counts : (p : P) (v : Move) → m.legal p v ≡ true → (1 ≤ length (m.outcomes p v)) × (length (m.outcomes p v) ≤ 65535)
  pub leads : (p : P) (v : Move) → m.legal p v ≡ true → AllByRecursion (λ o. m.owns o.position ≡ true) (m.outcomes p v)
  -- an illegal move has no outcome
  pub idle : (p : P) (v : Move) → m.legal p v ≡ false → m.outcomes p v ≡ []
  -- priorities go up to 5 and labels to 31; a position that is not its own has 0 for both
  pub ranges : (p : P) → (m.priority p ≤ 5) × (m.label p ≤ 31)
  pub strange : (p : P) → m.owns p ≡ false → (m.priority p ≡ 0) × (m.label p ≡ 0)
