-- The region in the words of the rules.
use Rattle.std.proofs.Common.{◌≡◌, ℕ, zero, suc, ◌+◌, ◌-◌, ◌*◌, ◌/◌, ◌%◌, Bool, true, false, cond, ◌&&◌, eqb, ltb, leb, List, map, refl, ap, ◌∙◌, inl, inr, arith}
use mathlib.Core.List.{map-map}
use Rattle.std.proofs.lemmas.Bool.Decides.{nat_tests}
use Rattle.std.proofs.lemmas.Bool.{cases_lt, le-ltb, lt-ltb}
use Rattle.clocks.specs.Regions.{Clock, part, spot, seen, upto, rank, classed, has}
use Rattle.clocks.specs.Theorems.{smaller, said, Said}
use Rattle.clocks.proofs.Lists.{map_ext, some_map, some_ext}

upto_same : (f g : ℕ → Bool) → ((v : ℕ) → f (suc v) ≡ g (suc v)) → (n : ℕ) → upto f n ≡ upto g n
upto_same f g e zero = refl
upto_same f g e (suc n) = let a = upto_same f g e n in let b = e n in cc

module _ (D : ℕ) (xs : List Clock) where
  at_spot : (v : ℕ) (x : Clock) → eqb (spot D x).rest (suc v) ≡ (leb x.reading (x.ceiling * D) && eqb (x.reading % D) (suc v))
  at_spot v x = grind (arith, nat_tests)

  seen_said : (v : ℕ) → seen (map (spot D) xs) (suc v) ≡ has D xs (suc v)
  seen_said v = some_map (λ p. eqb p.rest (suc v)) (spot D) xs
      ∙ some_ext (λ x. eqb (spot D x).rest (suc v)) (λ x. leb x.reading (x.ceiling * D) && eqb (x.reading % D) (suc v)) (at_spot v) xs

  rank_said : (r : ℕ) → rank (seen (map (spot D) xs)) r ≡ cond (eqb r 0) 0 (1 + smaller D xs r)
  rank_said zero = refl
  rank_said (suc n) =
      let e : suc n - 1 ≡ n = omega arith in
      let a = upto_same (seen (map (spot D) xs)) (has D xs) seen_said n in
      let z : eqb (suc n) 0 ≡ false = grind (arith, nat_tests) in
      rw (z, e) (omega arith)

  part_said : (x : Clock) → classed (seen (map (spot D) xs)) (spot D x) ≡ said D xs x
  part_said x = elim (cases_lt (x.ceiling * D) x.reading) [
    | inl l ↦ let a : ltb (x.ceiling * D) x.reading ≡ true = lt-ltb (x.ceiling * D) x.reading l in rw a
    | inr l ↦ let a : ltb (x.ceiling * D) x.reading ≡ false = le-ltb (x.ceiling * D) x.reading l in rw a (ap (part x.ceiling (x.reading / D)) (rank_said (x.reading % D)))
  ]

pub said_stand : Said
said_stand D xs = map-map (classed (seen (map (spot D) xs))) (spot D) xs ∙ map_ext (λ x. classed (seen (map (spot D) xs)) (spot D x)) (said D xs) (part_said D xs) xs
