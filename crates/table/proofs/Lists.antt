-- Lists of faults, and what stands at a number.
use Rattle.std.proofs.Common.{◌≡◌, ℕ, zero, suc, ◌+◌, Bool, true, false, List, [], ◌∷◌, ◌++◌, Some, Ok, Err, Result, refl, ap, arith}
use Rattle.std.specs.List.{slice_get}
use Rattle.std.proofs.lemmas.Option.{none-some, same_Some}
use Rattle.table.specs.declared.fault.Fault.{Fault}
use Rattle.table.specs.Check.{when, numbered, verdict}

pub cons_nil : {A : Type 0} {x : A} {xs : List A} → ◌≡◌ {A = List A} (x ∷ xs) [] → ⊥
cons_nil e = let z : ◌≡◌ {A = ℕ} 0 1 = cc in omega arith

pub append_nil : {A : Type 0} (xs ys : List A) → xs ++ ys ≡ [] → (xs ≡ []) × (ys ≡ [])
append_nil [] ys e = (refl, e)
append_nil (x ∷ xs) ys e = absurd (cons_nil e)

pub when_nil : (b : Bool) (f : Fault) → when b f ≡ [] → b ≡ false
when_nil true f e = absurd (cons_nil e)
when_nil false f e = refl

numbered_from : {X : Type 0} (f : ℕ → X → List Fault) (n : ℕ) (xs : List X) → numbered f n xs ≡ [] →
    (k j : ℕ) (x : X) → n + k ≡ j → slice_get xs k ≡ Some x → f j x ≡ []
numbered_from f n [] e k j x q h = absurd (none-some _ h)
numbered_from f n (y ∷ xs) e zero j x q h =
    let i : n ≡ j = omega arith in rw (← i, ← same_Some _ _ h) (append_nil (f n y) _ e).0
numbered_from f n (y ∷ xs) e (suc k) j x q h = numbered_from f (suc n) xs (append_nil (f n y) _ e).1 k j x (omega arith) h

-- where nothing is found at all, nothing is found at any number
pub numbered_nil : {X : Type 0} (f : ℕ → X → List Fault) (xs : List X) → numbered f 0 xs ≡ [] → (k : ℕ) (x : X) → slice_get xs k ≡ Some x → f k x ≡ []
numbered_nil f xs e k x h = numbered_from f 0 xs e k k x (omega arith) h

all_from : {X : Type 0} (f : ℕ → X → List Fault) (n : ℕ) (xs : List X) →
    ((k j : ℕ) (x : X) → n + k ≡ j → slice_get xs k ≡ Some x → f j x ≡ []) → numbered f n xs ≡ []
all_from f n [] h = refl
all_from f n (x ∷ xs) h = rw (h 0 n x (omega arith) refl, all_from f (suc n) xs (λ k j y q e. h (suc k) j y (omega arith) e))

-- and the other way round
pub numbered_all : {X : Type 0} (f : ℕ → X → List Fault) (xs : List X) → ((k : ℕ) (x : X) → slice_get xs k ≡ Some x → f k x ≡ []) → numbered f 0 xs ≡ []
numbered_all {X} f xs h = all_from f 0 xs (λ k j x q e. let F : ℕ → Type 0 = λ i. slice_get xs i ≡ Some x in h j x (let i : k ≡ j = omega arith in rw (← i) e))

-- a verdict, by what it answers
pub verdict_ok : {R : Type 0} (r a : R) (fs : List Fault) → Ok a ≡ verdict r fs → (fs ≡ []) × (a ≡ r)
verdict_ok r a [] e = (refl, cc)
verdict_ok r a (f ∷ fs) e = let z : ◌≡◌ {A = ℕ} 0 1 = cc in absurd (omega arith)

pub verdict_err : {R S : Type 0} (r : R) (s : S) (fs gs : List Fault) (f : Fault) → Err f ≡ verdict r fs → Err f ≡ verdict s (fs ++ gs)
verdict_err r s [] gs f e = let z : ◌≡◌ {A = ℕ} 0 1 = cc in absurd (omega arith)
verdict_err r s (g ∷ fs) gs f e = let q : f ≡ g = cc in ap {B = Result _ Fault} Err q
