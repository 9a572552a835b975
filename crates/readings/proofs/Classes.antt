-- Classes counted by looking at each remainder once.
use Rattle.std.proofs.Common.{◌≡◌, ℕ, zero, suc, ◌+◌, Bool, true, false, cond, not, ◌&&◌, ◌||◌, eqb, ltb, List, [], ◌∷◌, refl, ap, arith}
use mir.Val.{bool_byte}
use Rattle.std.proofs.lemmas.Bool.Decides.{nat_tests}
use Rattle.clocks.specs.Regions.{Part, seen, upto, rank}

-- whether a remainder counts for a larger one: unless an equal one is counted
abbrev pub counted : ℕ → ℕ → Bool → Bool
counted r v again = (ltb 0 r && ltb r v) && not again

abbrev adds : ℕ → ℕ → Bool → ℕ
adds r v again = cond (counted r v again) 1 0

step : (U W r n : ℕ) (s t : Bool) → (r ≡ suc n → t ≡ s) → U ≡ W + adds r (suc n) t
    → U + cond (eqb r (suc n) || s) 1 0 ≡ W + cond s 1 0 + adds r (suc (suc n)) t
step U W r n true true h e = grind (arith, nat_tests)
step U W r n false false h e = grind (arith, nat_tests)
step U W r n true false h e = grind (arith, nat_tests)
step U W r n false true h e = grind (arith, nat_tests)

upto_cons : (p : Part) (ps : List Part) (n : ℕ) → upto (seen (p ∷ ps)) n ≡ upto (seen ps) n + adds p.rest (suc n) (seen ps p.rest)
upto_cons p ps zero = grind (arith, nat_tests)
upto_cons p ps (suc n) =
    step (upto (seen (p ∷ ps)) n) (upto (seen ps) n) p.rest n (seen ps (suc n)) (seen ps p.rest) (ap (seen ps)) (upto_cons p ps n)

upto_nil : (n : ℕ) → upto (seen []) n ≡ 0
upto_nil zero = refl
upto_nil (suc n) = let a = upto_nil n in omega arith

byte_is : (a b : Bool) → a ≡ b → bool_byte a ≡ cond b 1 0
byte_is true b e = ap (λ c. cond c 1 0) e
byte_is false b e = ap (λ c. cond c 1 0) e

-- the class of v among four remainders
pub four : (p q r t : Part) (v : ℕ) (a b c d : Bool) → (v ≡ 0 → ⊥)
    → a ≡ counted t.rest v false
    → b ≡ counted r.rest v (seen (t ∷ []) r.rest)
    → c ≡ counted q.rest v (seen (r ∷ t ∷ []) q.rest)
    → d ≡ counted p.rest v (seen (q ∷ r ∷ t ∷ []) p.rest)
    → 1 + bool_byte a + bool_byte b + bool_byte c + bool_byte d ≡ rank (seen (p ∷ q ∷ r ∷ t ∷ [])) v
four p q r t zero a b c d z i j k l = let w : ⊥ = z refl in absurd w
four p q r t (suc n) a b c d z i j k l =
    let e = upto_cons p (q ∷ r ∷ t ∷ []) n in
    let f = upto_cons q (r ∷ t ∷ []) n in
    let g = upto_cons r (t ∷ []) n in
    let h = upto_cons t [] n in
    let o = upto_nil n in
    let ai = byte_is a (counted t.rest (suc n) false) i in
    let bi = byte_is b (counted r.rest (suc n) (seen (t ∷ []) r.rest)) j in
    let ci = byte_is c (counted q.rest (suc n) (seen (r ∷ t ∷ []) q.rest)) k in
    let di = byte_is d (counted p.rest (suc n) (seen (q ∷ r ∷ t ∷ []) p.rest)) l in
    omega arith
