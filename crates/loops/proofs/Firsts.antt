-- The first of the numbers below n for which something holds.
use Rattle.std.proofs.Common.{◌≡◌, ℕ, zero, suc, ◌<◌, ◌⊎◌, subst, inl, inr, ⊎_elim, arith}
use Rattle.std.proofs.lemmas.Bool.{cases_eq}

pub record First (P : ℕ → Type 0) (n : ℕ) : Type 0 where
  pub number : ℕ
  pub below : number < n
  pub holds : P number
  pub before : (k : ℕ) → k < number → P k → ⊥

pub some_or_none : (P : ℕ → Type 0) → ((k : ℕ) → P k ⊎ (P k → ⊥)) → (n : ℕ) → First P n ⊎ ((k : ℕ) → k < n → P k → ⊥)
some_or_none P test zero = inr (λ k b. absurd (omega arith))
some_or_none P test (suc n) =
    ⊎_elim
    (λ (f : First P n). inl (record { number = f.number; below = omega (arith, f.below); holds = f.holds; before = f.before }))
    (λ (none : (k : ℕ) → k < n → P k → ⊥).
    ⊎_elim
    (λ (h : P n). inl (record { number = n; below = omega arith; holds = h; before = none }))
    (λ (h : P n → ⊥).
    inr (λ k b x. ⊎_elim (λ (e : k ≡ n). h (subst P e x)) (λ (e : k ≡ n → ⊥). none k (omega arith) x) (cases_eq k n)))
    (test n))
    (some_or_none P test n)
