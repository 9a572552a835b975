-- How many next regions a region has, and how many classes.
use Rattle.std.proofs.Common.{◌≡◌, ℕ, zero, suc, ◌+◌, ◌<◌, ◌≤◌, Bool, true, false, cond, ◌||◌, eqb, ltb, leb, List, [], ◌∷◌, map, length, Some, None, Option, sym, refl, ap, ◌∙◌, inl, inr, arith}
use Rattle.std.specs.List.{AllByRecursion}
use Rattle.std.proofs.lemmas.Bool.Decides.{nat_tests}
use Rattle.std.proofs.lemmas.Bool.{cases_Bool, cases_eq, cases_order, ltb-true}
use Rattle.clocks.specs.Regions.{Part, some, seen, upto, top, resting, rising, leave, arrive, next, onward, waits, Within, Own, left, remaining}
use Rattle.clocks.specs.Theorems.{Ends, Once, Few}
use Rattle.clocks.proofs.Lists.{all_any}
use Rattle.clocks.proofs.Owns.{keeps, upto_own}

falls : (P : Part → Type 0) (q : Part → Bool) (f : Part → Part) → ((p : Part) → P p → left (f p) + cond (q p) 1 0 ≤ left p)
    → (r : List Part) → AllByRecursion P r → remaining (map f r) + cond (some q r) 1 0 ≤ remaining r
falls P q f e [] h = omega arith
falls P q f e (p ∷ ps) h = let a = e p h.0 in let b = falls P q f e ps h.1 in either (q p) (some q ps) a b
  where
    either : (t u : Bool) → left (f p) + cond t 1 0 ≤ left p → remaining (map f ps) + cond u 1 0 ≤ remaining ps → left (f p) + remaining (map f ps) + cond (t || u) 1 0 ≤ left p + remaining ps
    either true true a b = omega arith
    either true false a b = omega arith
    either false u a b = omega arith

leave_falls : (up : Bool) (p : Part) → left (leave up p) + cond (resting p) 1 0 ≤ left p
leave_falls up p = grind (arith, nat_tests)

arrive_falls : (t : ℕ) → 0 < t → (p : Part) → Within p → left (arrive t p) + cond (eqb p.rest t) 1 0 ≤ left p
arrive_falls t z p h = grind (arith, nat_tests)

next_falls : (r after : List Part) → Own r → next r ≡ Some after → remaining after < remaining r
next_falls r after h e = elim (cases_Bool (some resting r)) [
  | inl t ↦
      let a = falls (λ _. Unit {0}) resting (leave (some rising r)) (λ p _. leave_falls (some rising r) p) r (all_any (λ _. Unit {0}) (λ _. tt) r) in
      let i : Some (map (leave (some rising r)) r) ≡ Some after = sym (rw t) ∙ e in
      let j : map (leave (some rising r)) r ≡ after = cc in
      omega (arith, rw (t, j) at a)
  | inr t ↦ elim (cases_Bool (ltb 0 (top r))) [
    | inl u ↦
        let z : 0 < top r = ltb-true 0 (top r) u in
        let k : seen r (top r) ≡ true = h.gapless (top r) z (omega arith) in
        let a = falls Within (λ p. eqb p.rest (top r)) (arrive (top r)) (arrive_falls (top r) z) r h.within in
        let i : Some (map (arrive (top r)) r) ≡ Some after = sym (rw (t, u)) ∙ e in
        let j : map (arrive (top r)) r ≡ after = cc in
        omega (arith, rw (k, j) at a)
    | inr u ↦
        let i : None ≡ Some after = sym (rw (t, u)) ∙ e in
        let n : ◌≡◌ {A = ℕ} 0 1 = cc in
        omega arith
  ]
]

pub ends_stand : Ends
ends_stand zero r after h e = let i : r ≡ after = cc in rw i (omega arith)
ends_stand (suc n) r after h e = from (waits n r) refl e (λ q w. ends_stand n r q h w)
  where
    from : (o : Option (List Part)) → waits n r ≡ o → onward o ≡ Some after → ((q : List Part) → waits n r ≡ Some q → n + remaining q ≤ remaining r) → suc n + remaining after ≤ remaining r
    from None w e ih = let i : ◌≡◌ {A = ℕ} 0 1 = cc in omega arith
    from (Some q) w e ih = let a = ih q w in let b = next_falls q after (keeps n r q h w) e in omega arith

-- a longer wait leaves less
less : (m n : ℕ) (r a b : List Part) → Own r → m < n → waits m r ≡ Some a → waits n r ≡ Some b → remaining b < remaining a
less m zero r a b h l v w = omega arith
less m (suc n) r a b h l v w = from (waits n r) refl w (λ q k u. less m n r a q h k v u)
  where
    from : (o : Option (List Part)) → waits n r ≡ o → onward o ≡ Some b → ((q : List Part) → m < n → waits n r ≡ Some q → remaining q < remaining a) → remaining b < remaining a
    from None u e ih = let i : ◌≡◌ {A = ℕ} 0 1 = cc in omega arith
    from (Some q) u e ih =
        let f = next_falls q b (keeps n r q h u) e in
        elim (cases_eq m n) [
          | inl i ↦ let j : Some a ≡ Some q = sym v ∙ ap (λ k. waits k r) i ∙ u in let g : a ≡ q = cc in rw g f
          | inr i ↦ let g = ih q (omega arith) u in omega arith
        ]

pub once_stand : Once
once_stand m n r after h v w = elim (cases_order m n) [
  | inl e ↦ e
  | inr o ↦ elim o [
    | inl l ↦ let k = less m n r after after h l v w in omega arith
    | inr l ↦ let k = less n m r after after h l w v in omega arith
  ]
]

-- each part adds at most one to what is seen
upto_or : (f g : ℕ → Bool) (n : ℕ) → upto (λ v. f v || g v) n ≤ upto f n + upto g n
upto_or f g zero = omega arith
upto_or f g (suc n) = let a = upto_or f g n in both (f (suc n)) (g (suc n)) a
  where
    both : (s t : Bool) → upto (λ v. f v || g v) n ≤ upto f n + upto g n → upto (λ v. f v || g v) n + cond (s || t) 1 0 ≤ upto f n + cond s 1 0 + (upto g n + cond t 1 0)
    both true t a = omega arith
    both false true a = omega arith
    both false false a = omega arith

upto_one : (b n : ℕ) → upto (eqb b) n ≤ cond (leb b n) 1 0
upto_one b zero = grind (arith, nat_tests)
upto_one b (suc n) = let a = upto_one b n in grind (arith, nat_tests)

upto_seen : (r : List Part) (n : ℕ) → upto (seen r) n ≤ length r
upto_seen [] n = none n
  where
    none : (n : ℕ) → upto (λ _. false) n ≤ 0
    none zero = omega arith
    none (suc n) = let a = none n in omega arith
upto_seen (p ∷ r) n =
    let a = upto_or (eqb p.rest) (seen r) n in
    let b = upto_seen r n in
    let c : upto (eqb p.rest) n ≤ 1 = grind (arith, upto_one p.rest n) in
    omega arith

pub few_stand : Few
few_stand r h = let a = upto_own (seen r) (top r) h.gapless in let b = upto_seen r (top r) in omega arith
