-- Numbers up from 0 and down to it come to all places.
use Rattle.std.proofs.Common.{◌≡◌, ℕ, ◌+◌, ◌-◌, ◌<◌, ◌≤◌, List, [], ◌∷◌, Option, refl, ap, ◌∙◌, subst, sym, ⊎_elim, arith}
use Rattle.std.specs.declared.ops.Range.{Range}
use Rattle.std.specs.declared.iter.Rev.{Rev}
use Rattle.std.specs.Range.{range_steps, range_steps_back}
use Rattle.std.specs.Iterator.{Yields}
use Rattle.std.specs.Iterator.Adapters.{rev_source, rev_steps}
use Rattle.std.specs.List.{ContainsAt}
use Rattle.std.proofs.ByRecursion.{has_append_right}
use Rattle.std.proofs.lemmas.Bool.{cases_eq}
use Rattle.ranker.specs.Lifts.{Covers}

pub has_first : {X : Type 0} (x : X) (xs : List X) → ContainsAt (x ∷ xs) x
has_first x xs = (0, omega arith, λ d. refl)

has_first_or_later : (x k : ℕ) (xs : List ℕ) → ((k ≡ x → ⊥) → ContainsAt xs k) → ContainsAt (x ∷ xs) k
has_first_or_later x k xs later =
    ⊎_elim
    (λ (e : k ≡ x). subst (ContainsAt (x ∷ xs)) (sym e) (has_first x xs))
    (λ (ne : k ≡ x → ⊥). has_append_right (x ∷ []) xs k (later ne))
    (cases_eq k x)

abbrev up : Range ℕ → Option ℕ → Range ℕ → Type 0
up = range_steps (λ a b. b - a) (λ x y. y ≡ x + 1)

abbrev down : Rev (Range ℕ) → Option ℕ → Rev (Range ℕ) → Type 0
down = rev_steps (range_steps_back (λ a b. b - a) (λ x y. y ≡ x + 1))

gone_up : (ks : List ℕ) (s t : Range ℕ) → Yields up s ks t → (t.end ≡ s.end) × (s.start ≤ t.start) × ((k : ℕ) → s.start ≤ k → k < t.start → ContainsAt ks k)
gone_up [] s t y = (sym (ap (λ (r : Range ℕ). r.end) y), omega (arith, ap (λ (r : Range ℕ). r.start) y), λ k a b. absurd (omega (arith, ap (λ (r : Range ℕ). r.start) y)))
gone_up (x ∷ ks) s t y =
    let r = gone_up ks y.0 t y.2 in (
      r.0 ∙ y.1.0,
      omega (arith, r.1, y.1.1.2),
      λ k a b. has_first_or_later x k ks (λ ne. r.2 k (omega (arith, y.1.1.1, y.1.1.2)) b),
    )

gone_down : (ks : List ℕ) (s t : Rev (Range ℕ)) → Yields down s ks t →
    ((rev_source t).start ≡ (rev_source s).start) × ((rev_source t).end ≤ (rev_source s).end) × ((k : ℕ) → (rev_source t).end ≤ k → k < (rev_source s).end → ContainsAt ks k)
gone_down [] s t y =
    let e : (rev_source s).end ≡ (rev_source t).end = ap (λ (r : Rev (Range ℕ)). (rev_source r).end) y in
    (sym (ap (λ (r : Rev (Range ℕ)). (rev_source r).start) y), omega (arith, e), λ k a b. absurd (omega (arith, e)))
gone_down (x ∷ ks) s t y =
    let r = gone_down ks y.0 t y.2 in (
      r.0 ∙ y.1.0,
      omega (arith, r.1, y.1.1.2),
      λ k a b. has_first_or_later x k ks (λ ne. r.2 k a (omega (arith, y.1.1.1, y.1.1.2))),
    )

pub covers_up : (n : ℕ) (s : Range ℕ) → s.start ≡ 0 → s.end ≡ n → Covers up s n
covers_up n s low high =
    record {
      within = λ ks t u k y step. omega (arith, (gone_up ks s t y).0, step.1.0, step.1.1);
      whole = λ ks t u y step k b. let r = gone_up ks s t y in r.2 k (omega arith) (omega (arith, r.0, step.1.0));
    }

pub covers_down : (n : ℕ) (s : Rev (Range ℕ)) → (rev_source s).start ≡ 0 → (rev_source s).end ≡ n → Covers down s n
covers_down n s low high =
    record {
      within = λ ks t u k y step. let r = gone_down ks s t y in omega (arith, r.1, step.1.0, step.1.1, step.1.2);
      whole = λ ks t u y step k b. let r = gone_down ks s t y in r.2 k (omega (arith, r.0, step.1.0)) (omega arith);
    }
