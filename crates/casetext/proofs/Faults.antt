-- The least fault of a line, field by field.
use Rattle.std.proofs.Common.{◌≡◌, ℕ, zero, suc, ◌+◌, ◌<◌, ◌≤◌, Bool, true, false, not, eqb, List, [], ◌∷◌, ◌++◌, length, get_or, drop, Some, None, Option, Ordering, Bor, sym, refl, ap, ◌∙◌, subst, inl, inr, arith}
use denote.Param.Members.{Mut}
use Rattle.std.specs.Fn.{CalledAt}
use Rattle.std.specs.Iterator.{KeyTurn, PicksMinByKey}
use Rattle.std.specs.List.{FoldsTo, cons_option, enumerate_from, filter_map}
use Rattle.std.specs.Ordering.{min_by_ordering, nat_cmp}
use Rattle.std.specs.declared.cmp.Ordering.TheVariants.{Less, Equal, Greater}
use Rattle.std.proofs.lemmas.Cmp.{ranked}
use Rattle.std.proofs.lemmas.Iterator.{YieldsList, items_from_drains}
use Rattle.std.proofs.lemmas.List.{drop_more, map-id}
use Rattle.std.proofs.lemmas.Bool.{cases_Bool, eqb-true, cond-true, cond-false, eq-eqb, le-leb, lt-leb, not-true}
use Rattle.std.proofs.lemmas.Bool.Decides.{nat_tests}
use Rattle.casetext.specs.Faults.{number_of}
use Rattle.casetext.specs.declared.fault.TextFault.{TextFault}
use Rattle.casetext.specs.declared.line.Form.{Form}
use Rattle.casetext.specs.declared.line.Form.TheVariants.{Owner}
use Rattle.casetext.specs.declared.line.Kind.{Kind}
use Rattle.casetext.specs.Fields.{unless, wrong}
use Rattle.casetext.specs.Lines.{Said, out_of_place, forms, lesser, wrongs, line_fault}

lesser_assoc : (a b c : Option TextFault) → lesser (lesser a b) c ≡ lesser a (lesser b c)
lesser_assoc None b c = refl
lesser_assoc (Some a) None c = refl
lesser_assoc (Some a) (Some b) None = grind (arith, nat_tests)
lesser_assoc (Some a) (Some b) (Some c) = grind (arith, nat_tests)

-- the least of some faults, and of equal ones the first
abbrev pub leasts : List TextFault → Option TextFault
leasts [] = None
leasts (x ∷ xs) = lesser (Some x) (leasts xs)

leasts_cons : (o : Option TextFault) (xs : List TextFault) → leasts (cons_option o xs) ≡ lesser o (leasts xs)
leasts_cons None xs = refl
leasts_cons (Some x) xs = refl

-- what is wrong with a field of line n, which stands beside its number from 0
abbrev pub wrong_at : ℕ → List Form → ℕ × List ℕ → Option TextFault
wrong_at n ms p = wrong n (p.0 + 1) (get_or ms p.0 Owner) p.1

wrongs_none : (n i : ℕ) (ms : List Form) → wrongs n i ms [] ≡ None
wrongs_none n i [] = refl
wrongs_none n i (m ∷ ms) = refl

-- field by field, from the k-th on
pub wrongs_are : (n : ℕ) (ms : List Form) (k : ℕ) (fs : List (List ℕ)) → k + length fs ≤ length ms → leasts (filter_map (wrong_at n ms) (enumerate_from k fs)) ≡ wrongs n (k + 1) (drop k ms) fs
wrongs_are n ms k [] l = sym (wrongs_none n (k + 1) (drop k ms))
wrongs_are n ms k (f ∷ fs) l =
    let m = get_or ms k Owner in
    leasts_cons (wrong n (k + 1) m f) _ ∙ ap (lesser (wrong n (k + 1) m f)) (wrongs_are n ms (k + 1) fs (omega arith)) ∙ ap (λ x. wrongs n (k + 1) x (f ∷ fs)) (sym (drop_more ms k Owner (omega arith)))

pick_number : (o : Ordering) (a b : TextFault) → min_by_ordering o (number_of a) (number_of b) ≡ number_of (min_by_ordering o a b)
pick_number Less a b = refl
pick_number Equal a b = refl
pick_number Greater a b = refl

pick_lesser : (o : Ordering) (a b : TextFault) → nat_cmp (number_of a) (number_of b) ≡ o → Some (min_by_ordering o a b) ≡ lesser (Some a) (Some b)
pick_lesser Less a b e = sym (cond-true _ _ _ (le-leb (number_of a) (number_of b) (omega (arith, ranked (number_of a) (number_of b) Less (sym e)))))
pick_lesser Equal a b e = sym (cond-true _ _ _ (le-leb (number_of a) (number_of b) (omega (arith, ranked (number_of a) (number_of b) Equal (sym e)))))
pick_lesser Greater a b e = sym (cond-false _ _ _ (lt-leb (number_of a) (number_of b) (omega (arith, ranked (number_of a) (number_of b) Greater (sym e)))))

-- keeping the first of the faults with the smallest number gives the least
module _ {F : Type 0} (g : Mut F (Bor TextFault × Unit {0}) ℕ) (cmp : ℕ → ℕ → Ordering) (f : F) (counts : (x y : ℕ) → cmp x y ≡ nat_cmp x y) (key : (x : TextFault) (k : ℕ) (q : F) → CalledAt g f x k q → (q ≡ f) × (k ≡ number_of x)) where
  least_turns : (p : (F × ℕ) × TextFault) (xs : List TextFault) (q : F × ℕ) (y : TextFault) → p.0.0 ≡ f → p.0.1 ≡ number_of p.1 → FoldsTo (KeyTurn min_by_ordering min_by_ordering g cmp) p xs (q, y) → Some y ≡ lesser (Some p.1) (leasts xs)
  least_turns p [] q y same number h = ap (λ w. Some w.1) (sym h)
  least_turns p (z ∷ xs) q y same number h =
      let P : F → Type 0 = λ w. CalledAt g w z h.1.0 h.0.0.0 in
      let r = key z h.1.0 h.0.0.0 (subst P same h.1.2) in
      let o = h.1.1 in
      let ranks : nat_cmp (number_of p.1) (number_of z) ≡ o = ap (λ x. nat_cmp x (number_of z)) (sym number) ∙ ap (nat_cmp p.0.1) (sym r.1) ∙ sym (counts p.0.1 h.1.0) ∙ h.1.3 in
      let next : h.0.0.1 ≡ number_of h.0.1 = h.1.4 ∙ ap (λ x. min_by_ordering o x h.1.0) number ∙ ap (min_by_ordering o (number_of p.1)) r.1 ∙ pick_number o p.1 z ∙ ap number_of (sym h.1.5) in
      least_turns h.0 xs q y r.0 next h.2
      ∙ ap (λ x. lesser x (leasts xs)) (ap Some h.1.5 ∙ pick_lesser o p.1 z ranks)
      ∙ lesser_assoc (Some p.1) (Some z) (leasts xs)

  pub least_from : {S : Type 0} {steps : S → Option TextFault → S → Type 0} {s : S} {all : List TextFault} (r : Option TextFault) → PicksMinByKey steps g cmp s f r → YieldsList steps (λ x. x) s all → r ≡ leasts all
  least_from None h e = ap leasts (items_from_drains [] (h.1.0, h.1.1, λ _. (h.0, h.1.2)) e)
  least_from (Some y) h e =
      let first = key h.0 h.2 h.3 h.6 in
      least_turns ((h.3, h.2), h.0) h.1 h.4 y first.0 first.1 h.7 ∙ ap leasts (sym (map-id (h.0 ∷ h.1)) ∙ items_from_drains (h.0 ∷ h.1) (h.5.1.0, h.5.1.1, λ _. (h.5.0, h.5.1.2)) e)

-- a line without faults has all its fields, and nothing is wrong with any
pub faultless_length : (n : ℕ) (ms : List Form) (fs : List (List ℕ)) → line_fault n ms fs ≡ None → length fs ≡ length ms
faultless_length n ms fs e = elim (cases_Bool (eqb (length fs) (length ms))) [ inl t ↦ eqb-true _ _ t | inr f ↦ absurd (grind (arith, sym (cond-false _ _ _ f) ∙ e)) ]

-- nothing is wrong with a field, at some place
abbrev pub Passes : Form → List ℕ → Type 0
Passes m f = (n : ℕ) × ((i : ℕ) × (wrong n i m f ≡ None))

abbrev pub Fine : List Form → List (List ℕ) → Type 0
Fine [] fs = Unit {0}
Fine (m ∷ ms) [] = ⊥
Fine (m ∷ ms) (f ∷ fs) = Passes m f × Fine ms fs

lesser_parts : (a b : Option TextFault) → lesser a b ≡ None → (a ≡ None) × (b ≡ None)
lesser_parts None b e = (refl, e)
lesser_parts (Some a) None e = absurd (grind arith)
lesser_parts (Some a) (Some b) e = absurd (grind (arith, nat_tests))

fine_wrongs : (n i : ℕ) (ms : List Form) (fs : List (List ℕ)) → length fs ≡ length ms → wrongs n i ms fs ≡ None → Fine ms fs
fine_wrongs n i [] fs l e = tt
fine_wrongs n i (m ∷ ms) [] l e = absurd (omega arith)
fine_wrongs n i (m ∷ ms) (f ∷ fs) l e =
    let p = lesser_parts (wrong n i m f) (wrongs n (i + 1) ms fs) e in
    ((n, (i, p.0)), fine_wrongs n (i + 1) ms fs (omega arith) p.1)

pub fine : (n : ℕ) (ms : List Form) (fs : List (List ℕ)) → line_fault n ms fs ≡ None → Fine ms fs
fine n ms fs e =
    let l = faultless_length n ms fs e in
    fine_wrongs n 1 ms fs l (sym (cond-true _ _ _ (eq-eqb (length fs) (length ms) l)) ∙ e)

pub fine_at : (ms : List Form) (fs : List (List ℕ)) (i : ℕ) (d : Form) → Fine ms fs → i < length ms → Passes (get_or ms i d) (get_or fs i [])
fine_at [] fs i d h l = absurd (omega arith)
fine_at (m ∷ ms) [] i d h l = absurd h
fine_at (m ∷ ms) (f ∷ fs) zero d h l = h.0
fine_at (m ∷ ms) (f ∷ fs) (suc i) d h l = fine_at ms fs i d h.1 (omega arith)

pub fine_drop : (pre ms : List Form) (fs : List (List ℕ)) → Fine (pre ++ ms) fs → Fine ms (drop (length pre) fs)
fine_drop [] ms fs h = h
fine_drop (m ∷ pre) ms [] h = absurd h
fine_drop (m ∷ pre) ms (f ∷ fs) h = fine_drop pre ms fs h.1

pub passing : (b : Bool) (fault : TextFault) → unless b fault ≡ None → b ≡ true
passing b fault e = grind (arith, nat_tests)

-- a line without faults is in its place
pub in_place : (s : Said) (k : Kind) (fs : List (List ℕ)) → Fine (forms s k) fs → out_of_place s k ≡ false
in_place s k fs h = let p = fine_at (forms s k) fs 0 Owner h (omega arith) in not-true (out_of_place s k) (passing (not (out_of_place s k)) _ p.1.1)
