-- What a region of its clocks has, as a test and as a fact.
use Rattle.std.proofs.Common.{◌≡◌, ℕ, zero, suc, ◌+◌, ◌<◌, ◌≤◌, Bool, true, cond, eqb, ◌⊎◌, List, [], ◌∷◌, Some, sym, refl, ap, ◌∙◌, inl, inr, add-one, arith}
use Rattle.std.specs.List.{AllByRecursion, list_all}
use Rattle.std.proofs.lemmas.Bool.{cases_order, cases_Bool, and_parts, and_from, eq-eqb, eqb-true}
use Rattle.std.proofs.lemmas.Bool.Decides.{nat_tests}
use Rattle.clocks.specs.Regions.{Part, seen, top, upto, next, ranked, zeroed, Within, Own}
use Rattle.clocks.proofs.Main.{kept_stand, fresh_stand}
use Rattle.clocks.proofs.Owns.{upto_own}
use Rattle.clocks.proofs.Counts.{upto_le}
use Rattle.clocks.proofs.Measures.{few_stand}
use Rattle.regions.specs.Types.{Ceilings, Region}
use Rattle.regions.specs.Code.{parts, within, is_own, ceiled, proper, Smalls}

within_from : (p : Part) → within p ≡ true → Within p
within_from p h = (grind (arith, nat_tests), λ k. grind (arith, nat_tests))

within_to : (p : Part) → Within p → within p ≡ true
within_to p h = grind (arith, nat_tests)

every_from : (r : List Part) → list_all within r ≡ true → AllByRecursion Within r
every_from [] h = tt
every_from (p ∷ r) h = let t = and_parts (within p) (list_all within r) h in (within_from p t.0, every_from r t.1)

every_to : (r : List Part) → AllByRecursion Within r → list_all within r ≡ true
every_to [] h = refl
every_to (p ∷ r) h = and_from (within p) (list_all within r) (within_to p h.0) (every_to r h.1)

upto_full : (f : ℕ → Bool) (n : ℕ) → upto f n ≡ n → (v : ℕ) → 0 < v → v ≤ n → f v ≡ true
upto_full f zero e v z l = let w : ⊥ = omega arith in absurd w
upto_full f (suc n) e v z l = elim (cases_Bool (f (suc n))) [
  | inl t ↦ elim (cases_order v (suc n)) [
    | inl i ↦ ap f i ∙ t
    | inr o ↦ let k : upto f n + 1 ≡ suc n = rw t at e in upto_full f n (omega arith) v z (before o)
  ]
  | inr t ↦ let k : upto f n + 0 ≡ suc n = rw t at e in let m = upto_le f n in let w : ⊥ = omega arith in absurd w
]
  where
    before : (v < suc n) ⊎ (suc n < v) → v ≤ n
    before (inl k) = omega arith
    before (inr k) = omega arith

pub own_from : (r : List Part) → is_own r ≡ true → Own r
own_from r h =
    let t = and_parts (list_all within r) (eqb (upto (seen r) (top r)) (top r)) h in
    record { within = every_from r t.0; gapless = upto_full (seen r) (top r) (eqb-true (upto (seen r) (top r)) (top r) t.1) }

pub own_to : (r : List Part) → Own r → is_own r ≡ true
own_to r h =
    and_from (list_all within r) (eqb (upto (seen r) (top r)) (top r)) (every_to r h.within)
    (eq-eqb (upto (seen r) (top r)) (top r) (upto_own (seen r) (top r) h.gapless))

-- one more class looked at
pub upto_more : (f : ℕ → Bool) (v n after : ℕ) (b : Bool) → n ≡ upto f v → b ≡ f (v + 1) → after ≡ n + cond b 1 0 → after ≡ upto f (v + 1)
upto_more f v n after b e i j = let k : b ≡ f (suc v) = rw add-one at i in rw (add-one, ← k) (j ∙ ap (λ m. m + cond b 1 0) e)

-- clocks that stand in a region of theirs
module _ (c : Ceilings) (r : Region) (h : proper c r ≡ true) where
  pub proper_own : Own (parts c r)
  proper_own = own_from (parts c r) (and_parts (ceiled c) (is_own (parts c r)) h).1

  proper_at : (q : Region) → Own (parts c q) → proper c q ≡ true
  proper_at q o = and_from (ceiled c) (is_own (parts c q)) (and_parts (ceiled c) (is_own (parts c r)) h).0 (own_to (parts c q) o)

  pub proper_small : Smalls c r
  proper_small =
      let f = few_stand (parts c r) proper_own in
      let w = proper_own.within in
      let l = (and_parts (ceiled c) (is_own (parts c r)) h).0 in
      grind (arith, nat_tests)

  pub proper_next : (q : Region) → Some (parts c q) ≡ next (parts c r) → proper c q ≡ true
  proper_next q e = proper_at q (kept_stand 1 (parts c r) (parts c q) proper_own (sym e))

  pub proper_restarted : (bs : List Bool) (q : Region) → parts c q ≡ ranked (zeroed bs (parts c r)) → proper c q ≡ true
  proper_restarted bs q e = let o : Own (ranked (zeroed bs (parts c r))) = fresh_stand bs (parts c r) proper_own in proper_at q (rw e o)
