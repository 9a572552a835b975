-- The turns of a loop over a list that looks for the first fault.
use Rattle.std.proofs.Common.{◌≡◌, ℕ, ◌+◌, ◌<◌, List, ◌++◌, length, get_or, drop, Ok, Err, sum_by, sym, ap, ◌∙◌, add-one, arith}
use Rattle.std.proofs.lemmas.List.{at_drop_more}
use Rattle.std.proofs.lemmas.List.Sums.{sum_by-drop_more}
use Rattle.table.specs.declared.fault.Fault.{Fault}
use Rattle.table.specs.Check.{numbered, verdict}
use Rattle.table.proofs.Lists.{verdict_ok, verdict_err}

module _ {X Y : Type 0} (F : ℕ → X → List Y) (xs : List X) where
  pub split : (i : ℕ) (x : X) → i < length xs → x ≡ get_or xs i x → numbered F i (drop i xs) ≡ F i x ++ numbered F (i + 1) (drop (i + 1) xs)
  split i x b e = at_drop_more (numbered F i) xs i x b ∙ rw (← e, add-one)

module _ {X : Type 0} (F : ℕ → X → List Fault) (xs : List X) where
  -- a turn without a fault
  pub turn_more : {R : Type 0} (r a : R) (i : ℕ) (x : X) → i < length xs → x ≡ get_or xs i x → Ok a ≡ verdict r (F i x) →
      numbered F i (drop i xs) ≡ numbered F 0 xs → numbered F (i + 1) (drop (i + 1) xs) ≡ numbered F 0 xs
  turn_more r a i x b e v inv = let none = (verdict_ok r a (F i x) v).0 in sym (split F xs i x b e ∙ rw none) ∙ inv

  -- a turn with one
  pub turn_err : {R S : Type 0} (r : R) (s : S) (i : ℕ) (x : X) (f : Fault) → i < length xs → x ≡ get_or xs i x → Err f ≡ verdict r (F i x) →
      numbered F i (drop i xs) ≡ numbered F 0 xs → Err f ≡ verdict s (numbered F 0 xs)
  turn_err r s i x f b e v inv = rw (← inv, split F xs i x b e) (verdict_err r s (F i x) _ f v)

-- the turns of a loop that sums up
module _ {X : Type 0} (f : X → ℕ) (xs : List X) where
  pub sum_more : (i n a : ℕ) (x : X) → i < length xs → x ≡ get_or xs i x → n ≡ f x → a + sum_by f (drop i xs) ≡ sum_by f xs → (a + n) + sum_by f (drop (i + 1) xs) ≡ sum_by f xs
  sum_more i n a x b e q inv = omega (arith, sum_by-drop_more f xs i x b, ap f e)
