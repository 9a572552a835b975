-- Counting seen values one by one, and waits of one step more.
use Rattle.std.proofs.Common.{◌≡◌, ℕ, zero, suc, ◌+◌, ◌-◌, ◌<◌, ◌≤◌, Bool, true, false, cond, List, Some, None, Option, sym, ap, ◌∙◌, inl, inr, add-one, arith}
use Rattle.std.proofs.lemmas.Bool.{cases_eq}
use Rattle.clocks.specs.Regions.{Part, upto, next, onward, waits}

pub upto_le : (f : ℕ → Bool) (n : ℕ) → upto f n ≤ n
upto_le f zero = omega arith
upto_le f (suc n) = let a = upto_le f n in at (f (suc n)) a
  where
    at : (b : Bool) → upto f n ≤ n → upto f n + cond b 1 0 ≤ suc n
    at true a = omega arith
    at false a = omega arith

-- one more value looked at
pub upto_step : (f : ℕ → Bool) (v n after : ℕ) (b : Bool) → 0 < v → n ≡ suc (upto f (v - 1)) → b ≡ f v → after ≡ n + cond b 1 0 → after ≡ suc (upto f (v + 1 - 1))
upto_step f zero n after b z e i j = let w : ⊥ = omega arith in absurd w
upto_step f (suc u) n after b z e i j =
    let p : suc u - 1 ≡ u = omega arith in
    let q : suc u + 1 - 1 ≡ suc u = omega arith in
    let k : n ≡ suc (upto f u) = rw p at e in
    rw (q, ← i) (omega arith)

-- past the last region there is none
pub waits_none : (r : List Part) (m n : ℕ) → m ≤ n → waits m r ≡ None → waits n r ≡ None
waits_none r m zero l e = let i : 0 ≡ m = omega arith in ap (λ k. waits k r) i ∙ e
waits_none r m (suc n) l e = elim (cases_eq m (suc n))
    [ inl i ↦ ap (λ k. waits k r) (sym i) ∙ e | inr i ↦ ap onward (waits_none r m n (omega arith) e) ]

pub waits_more : (r q : List Part) (i : ℕ) (o : Option (List Part)) → waits i r ≡ Some q → o ≡ next q → waits (i + 1) r ≡ o
waits_more r q i o w e = rw add-one (ap onward w ∙ sym e)
