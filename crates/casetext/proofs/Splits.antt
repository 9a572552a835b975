-- A text cut at a separator, and into lines.
use Rattle.std.proofs.Common.{◌≡◌, ◌≢◌, ℕ, suc, ◌+◌, ◌<◌, ◌≤◌, min, true, false, cond, not, eqb, ltb, List, [], ◌∷◌, ◌++◌, length, get_or, take, drop, All, Some, None, Option, MatchOption, Bor, unwrap_or, sym, refl, ap, ◌∙◌, inl, inr, arith, eqb-true, take_all, take-suc}
use Rattle.std.specs.List.{position_or_len, position, onto_first, IsFirstMatchOrLen}
use Rattle.std.proofs.lemmas.List.{append_assoc, get_or_append_left, length-append, nil_from_length}
use Rattle.std.proofs.lemmas.List.Elements.{All-head, All-tail}
use Rattle.std.proofs.lemmas.Option.{same_Some, none-some}
use Rattle.std.proofs.lemmas.Bool.{cases_Bool, cases_lt, cond-true, cond-false, ltb-false}
use Rattle.std.proofs.lemmas.Bool.Decides.{nat_tests}
use Rattle.std.proofs.lemmas.Grind.{common_steps}
use Rattle.casetext.specs.Text.{lines, before, behind, line_feed}

-- the place of the first separator, or the length
abbrev pub place : ℕ → List ℕ → ℕ
place sep = position_or_len (λ b. eqb b sep)

pub before_is : (sep : ℕ) (bs : List ℕ) → before sep bs ≡ take (place sep bs) bs
before_is sep [] = refl
before_is sep (b ∷ bs) =
    elim (eqb b sep) as (λ t. cond t [] (b ∷ before sep bs) ≡ take (cond (not t) (1 + place sep bs) 0) (b ∷ bs)) [ true ↦ refl | false ↦ grind (arith, common_steps, before_is sep bs) ]

pub behind_is : (sep : ℕ) (bs : List ℕ) → behind sep bs ≡ cond (ltb (place sep bs) (length bs)) (Some (drop (place sep bs + 1) bs)) None
behind_is sep [] = refl
behind_is sep (b ∷ bs) =
    elim (eqb b sep) as (λ t. let n = cond (not t) (1 + place sep bs) 0 in cond t (Some bs) (behind sep bs) ≡ cond (ltb n (length (b ∷ bs))) (Some (drop (n + 1) (b ∷ bs))) None) [
      | true ↦ grind (arith, common_steps, nat_tests)
      | false ↦ grind (arith, common_steps, nat_tests, behind_is sep bs)
    ]

-- what the place says of the two parts
module _ (sep : ℕ) (bs : List ℕ) where
  pub cut_some : (i : ℕ) → position (λ b. eqb b sep) bs ≡ Some i → (before sep bs ≡ take i bs) × (behind sep bs ≡ Some (drop (i + 1) bs))
  cut_some i e =
      elim (cases_Bool (ltb (place sep bs) (length bs))) [
        | inl t ↦
            let h : place sep bs ≡ i = same_Some _ _ (sym (cond-true _ _ _ t) ∙ e) in
            (before_is sep bs ∙ ap (λ n. take n bs) h, behind_is sep bs ∙ cond-true _ _ _ t ∙ ap (λ n. Some (drop (n + 1) bs)) h)
        | inr f ↦ absurd (none-some _ (sym (cond-false _ _ _ f) ∙ e))
      ]

  pub cut_none : position (λ b. eqb b sep) bs ≡ None → (before sep bs ≡ bs) × (behind sep bs ≡ None)
  cut_none e =
      elim (cases_Bool (ltb (place sep bs) (length bs))) [
        | inl t ↦ absurd (none-some _ (sym e ∙ cond-true _ _ _ t))
        | inr f ↦ (before_is sep bs ∙ take_all _ bs (ltb-false _ _ f), behind_is sep bs ∙ cond-false _ _ _ f)
      ]

-- a byte that ends no line
abbrev Inside : ℕ → Type 0
Inside b = eqb b line_feed ≡ false

lines_inside : (b : ℕ) (bs : List ℕ) → Inside b → lines (b ∷ bs) ≡ onto_first b (lines bs)
lines_inside b bs h = cond-false (eqb b line_feed) ([] ∷ lines bs) (onto_first b (lines bs)) h

-- where no byte ends a line, the text is one line, if it is not empty
lines_none : (bs : List ℕ) → 0 < length bs → All Inside bs → lines bs ≡ bs ∷ []
lines_none [] h a = absurd (omega arith)
lines_none (b ∷ []) h a = lines_inside b [] (All-head Inside b [] a)
lines_none (b ∷ c ∷ bs) h a = lines_inside b (c ∷ bs) (All-head Inside b (c ∷ bs) a) ∙ ap (onto_first b) (lines_none (c ∷ bs) (omega arith) (All-tail Inside b (c ∷ bs) a))

-- the first line ends at the first line feed
lines_at : (line rest : List ℕ) → All Inside line → lines (line ++ line_feed ∷ rest) ≡ line ∷ lines rest
lines_at [] rest a = refl
lines_at (b ∷ bs) rest a = lines_inside b (bs ++ line_feed ∷ rest) (All-head Inside b bs a) ∙ ap (onto_first b) (lines_at bs rest (All-tail Inside b bs a))

-- the first piece that `split_inclusive` gives of a text, without its line feed, is the first line
module _ (bs rest : List ℕ) (piece : Bor (List ℕ)) (i : ℕ) (parts : bs ≡ piece.now ++ rest) (long : length piece.now ≡ min (i + 1) (length bs)) (first : IsFirstMatchOrLen (λ b. eqb b line_feed) bs i) where
  ended : i < length bs → piece.now ≡ take i piece.now ++ line_feed ∷ []
  ended l =
      let feed : get_or piece.now i 0 ≡ line_feed = sym (get_or_append_left piece.now rest 0 i (omega (arith, long))) ∙ ap (λ xs. get_or xs i 0) (sym parts) ∙ eqb-true _ _ (first.1 l 0) in
      sym (take_all (suc i) piece.now (omega (arith, long))) ∙ take-suc piece.now i 0 (omega (arith, long)) ∙ ap (λ b. take i piece.now ++ b ∷ []) feed

  pub first_line : (o : Option (Bor (List ℕ))) → 0 < length bs → MatchOption o ((front : List ℕ) → piece.now ≢ front ++ line_feed ∷ []) (λ x. piece.now ≡ x.now ++ line_feed ∷ []) → lines bs ≡ (unwrap_or o piece).now ∷ lines rest
  first_line None h m =
      elim (cases_lt i (length bs)) [
        | inl l ↦ absurd (m _ (ended l))
        | inr l ↦
            let none : rest ≡ [] = nil_from_length rest (omega (arith, long, ap length parts, length-append piece.now rest)) in
            let whole : bs ≡ piece.now = grind (arith, common_steps) in
            lines_none bs h (λ k d lt. first.0 k d (omega arith) (omega arith)) ∙ ap (λ p. p ∷ []) whole ∙ ap (λ r. piece.now ∷ lines r) (sym none)
      ]
  first_line (Some x) h m =
      let whole : bs ≡ x.now ++ line_feed ∷ rest = parts ∙ ap (λ p. p ++ rest) m ∙ append_assoc x.now (line_feed ∷ []) rest in
      let short : length x.now ≤ i = omega (arith, long, ap length m, length-append x.now (line_feed ∷ [])) in
      ap lines whole ∙ lines_at x.now rest (λ k d l. ap (λ b. eqb b line_feed) (sym (ap (λ xs. get_or xs k d) whole ∙ get_or_append_left x.now (line_feed ∷ rest) d k l)) ∙ first.0 k d (omega arith) (omega arith))
