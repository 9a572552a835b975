-- Counting the moments, or the rows, that pass a test, and the rows of smaller rank.
use Rattle.std.proofs.Common.{◌≡◌, ℕ, zero, suc, ◌+◌, ◌<◌, ◌≤◌, Bool, true, false, cond, ltb, refl, ap, ◌∙◌, ⊎_elim, arith}
use Rattle.std.proofs.lemmas.Bool.{cases_eq, both_ways, ltb-true, lt-ltb, le-ltb}
use Rattle.runs.specs.Runs.{times}

one_or_none : (a b : Bool) → (a ≡ true → b ≡ true) → cond a 1 0 ≤ cond b 1 0
one_or_none true true h = omega arith
one_or_none true false h = absurd (both_ways false refl (h refl))
one_or_none false true h = omega arith
one_or_none false false h = omega arith

pub times_mono : (f g : ℕ → Bool) (n k : ℕ) → ((j : ℕ) → k ≤ j → f j ≡ true → g j ≡ true) → times f k n ≤ times g k n
times_mono f g zero k h = omega arith
times_mono f g (suc n) k h =
    let here : cond (f k) 1 0 ≤ cond (g k) 1 0 = one_or_none (f k) (g k) (h k (omega arith)) in
    let rest : times f (suc k) n ≤ times g (suc k) n = times_mono f g n (suc k) (λ j b. h j (omega arith)) in
    omega arith

bit_less : (a b : Bool) → a ≡ false → b ≡ true → cond a 1 0 < cond b 1 0
bit_less a b x y = rw (x, y) (omega arith)

times_less : (f g : ℕ → Bool) (n k : ℕ) → ((j : ℕ) → f j ≡ true → g j ≡ true) → (v : ℕ) → k ≤ v → v < k + n → f v ≡ false → g v ≡ true → times f k n < times g k n
times_less f g zero k h v a b x y = absurd (omega arith)
times_less f g (suc n) k h v a b x y =
    ⊎_elim
    (λ (e : k ≡ v).
    let here : cond (f k) 1 0 < cond (g k) 1 0 = bit_less (f k) (g k) (ap f e ∙ x) (ap g e ∙ y) in
    let rest : times f (suc k) n ≤ times g (suc k) n = times_mono f g n (suc k) (λ j _. h j) in
    omega arith)
    (λ (e : k ≡ v → ⊥).
    let here : cond (f k) 1 0 ≤ cond (g k) 1 0 = one_or_none (f k) (g k) (h k) in
    let rest : times f (suc k) n < times g (suc k) n = times_less f g n (suc k) h v (omega arith) (omega arith) x y in
    omega arith)
    (cases_eq k v)

times_all : (n k : ℕ) → times (λ _. true) k n ≡ n
times_all zero k = refl
times_all (suc n) k = omega (arith, times_all n (suc k))

-- how many of n rows have a smaller rank than row s
unfoldable pub below : (ℕ → ℕ) → ℕ → ℕ → ℕ
below rk n s = times (λ t. ltb (rk t) (rk s)) 0 n

-- row s itself has not
pub below_most : (rk : ℕ → ℕ) (n s : ℕ) → s < n → below rk n s < n
unfolding below
below_most rk n s h =
    omega (arith, times_less (λ t. ltb (rk t) (rk s)) (λ _. true) n 0 (λ k e. refl) s (omega arith) (omega arith) (le-ltb (rk s) (rk s) (omega arith)) refl, times_all n 0)

pub below_mono : (rk : ℕ → ℕ) (n s t : ℕ) → rk t ≤ rk s → below rk n t ≤ below rk n s
unfolding below
below_mono rk n s t h = times_mono (λ k. ltb (rk k) (rk t)) (λ k. ltb (rk k) (rk s)) n 0 (λ k _ e. lt-ltb _ _ (omega (arith, ltb-true _ _ e)))

pub below_less : (rk : ℕ → ℕ) (n s t : ℕ) → t < n → rk t < rk s → below rk n t < below rk n s
unfolding below
below_less rk n s t b h =
    times_less (λ k. ltb (rk k) (rk t)) (λ k. ltb (rk k) (rk s)) n 0 (λ k e. lt-ltb _ _ (omega (arith, ltb-true _ _ e))) t (omega arith) (omega (arith, b)) (le-ltb (rk t) (rk t) (omega arith)) (lt-ltb _ _ h)
