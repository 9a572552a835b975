-- The first row that stands at a position and latch.
use Rattle.std.proofs.Common.{◌≡◌, ℕ, zero, suc, ◌<◌, ◌≤◌, Bool, true, false, cond, eqb, List, [], ◌∷◌, length, Some, None, Option, refl, subst, ⊎_elim, arith}
use Rattle.std.specs.List.{slice_get}
use Rattle.std.specs.Option.{option_map}
use Rattle.std.proofs.lemmas.Bool.{and_parts, and_from, eqb-true, eq-eqb, cases_Bool, both_ways}
use Rattle.std.proofs.lemmas.Option.{none-some, same_Some, slice_get_within}
use Rattle.arena.specs.Meaning.{Meaning, Lawful}
use Rattle.table.specs.declared.row.Row.{Row}
use Rattle.table.specs.Rows.{StandsAt, is_for, first_row}

module _ {P : Type 0} (m : Meaning P) (p : P) (l : ℕ) where
  -- what the first row is
  pub record First (rows : List (Row P)) (t : ℕ) : Type 0 where
    pub row : Row P
    pub there : slice_get rows t ≡ Some row
    pub fits : is_for m p l row ≡ true
    pub least : (k : ℕ) (q : Row P) → slice_get rows k ≡ Some q → is_for m p l q ≡ true → t ≤ k

  here : (x : Row P) (rows : List (Row P)) → is_for m p l x ≡ true → First (x ∷ rows) 0
  here x rows h = record { row = x; there = refl; fits = h; least = λ k q e f. omega arith }

  later : (x : Row P) (rows : List (Row P)) (t : ℕ) → is_for m p l x ≡ false → First rows t → First (x ∷ rows) (suc t)
  later x rows t h f = record { row = f.row; there = f.there; fits = f.fits; least = after }
    where
      after : (k : ℕ) (q : Row P) → slice_get (x ∷ rows) k ≡ Some q → is_for m p l q ≡ true → suc t ≤ k
      after zero q e g = let i : x ≡ q = same_Some _ _ e in absurd (both_ways (is_for m p l x) h (rw i g))
      after (suc k) q e g = omega (arith, f.least k q e g)

  by_test : (x : Row P) (rows : List (Row P)) (b : Bool) (o : Option ℕ) (t : ℕ) → is_for m p l x ≡ b → ((s : ℕ) → o ≡ Some s → First rows s) →
      cond b (Some 0) (option_map suc o) ≡ Some t → First (x ∷ rows) t
  by_test x rows true o t h f e = let F : ℕ → Type 0 = λ s. First (x ∷ rows) s in subst F (same_Some _ _ e) (here x rows h)
  by_test x rows false None t h f e = absurd (none-some _ e)
  by_test x rows false (Some s) t h f e = let F : ℕ → Type 0 = λ s. First (x ∷ rows) s in subst F (same_Some _ _ e) (later x rows s h (f s refl))

  pub first_is : (rows : List (Row P)) (t : ℕ) → first_row m rows p l ≡ Some t → First rows t
  first_is [] t e = absurd (none-some _ e)
  first_is (x ∷ rows) t e = by_test x rows (is_for m p l x) (first_row m rows p l) t refl (first_is rows) e

  -- a row that stands there means that there is a first one
  pub first_some : (rows : List (Row P)) (k : ℕ) (r : Row P) → slice_get rows k ≡ Some r → is_for m p l r ≡ true → (t : ℕ) × (first_row m rows p l ≡ Some t)
  first_some [] k r e h = absurd (none-some _ e)
  first_some (x ∷ rows) zero r e h = let q : x ≡ r = same_Some _ _ e in (0, rw (q, h))
  first_some (x ∷ rows) (suc k) r e h =
      let f = first_some rows k r e h in
      ⊎_elim (λ (t : is_for m p l x ≡ true). (0, rw t)) (λ (t : is_for m p l x ≡ false). (suc f.0, rw (t, f.1))) (cases_Bool (is_for m p l x))

  pub first_within : (rows : List (Row P)) (t : ℕ) → first_row m rows p l ≡ Some t → t < length rows
  first_within rows t e = let f = first_is rows t e in slice_get_within rows t f.row f.there

  -- under the laws the test and the fact agree
  module _ (ok : Lawful m) where
    pub fits_stands : (rows : List (Row P)) (t : ℕ) (r : Row P) → slice_get rows t ≡ Some r → is_for m p l r ≡ true → StandsAt rows t p l
    fits_stands rows t r e h =
        let f = and_parts (eqb r.latch l) (m.same r.position p) h in
        record { row = r; there = e; position = (ok.decides r.position p).0 f.1; latch = eqb-true r.latch l f.0 }

    pub stands_fits : (rows : List (Row P)) (t : ℕ) (x : StandsAt rows t p l) → is_for m p l x.row ≡ true
    stands_fits rows t x = and_from _ _ (eq-eqb _ _ x.latch) ((ok.decides _ p).1 x.position)

    pub first_stands : (rows : List (Row P)) (t : ℕ) → first_row m rows p l ≡ Some t → StandsAt rows t p l
    first_stands rows t e = let f = first_is rows t e in fits_stands rows t f.row f.there f.fits

    pub stands_first : (rows : List (Row P)) (k : ℕ) → StandsAt rows k p l → (t : ℕ) × (first_row m rows p l ≡ Some t) × (t ≤ k)
    stands_first rows k x =
        let h = stands_fits rows k x in
        let f = first_some rows k x.row x.there h in
        (f.0, f.1, (first_is rows f.0 f.1).least k x.row x.there h)
