-- Steps of the loop that reads a number.
use Rattle.std.proofs.Common.{◌≡◌, ℕ, ◌+◌, ◌-◌, ◌*◌, ◌<◌, true, List, [], ◌∷◌, length, get_or, drop, None, refl, ◌∙◌, arith}
use Rattle.std.specs.Char.{is_ascii_digit}
use Rattle.std.proofs.lemmas.List.{at_drop_more}
use Rattle.std.proofs.lemmas.Bool.{lt-leb, cond-true, cond-false, cond_both, and_right}
use Rattle.casetext.specs.Text.{digits, within}

-- a number above the limit stays above it
pub above : (low high : ℕ) (bs : List ℕ) (n : ℕ) → high < n → within low high (digits n bs) ≡ None
above low high [] n h = cond-false _ _ _ (and_right _ _ (lt-leb n high h))
above low high (b ∷ bs) n h =
    cond_both (is_ascii_digit b) _ _ (λ o. within low high o ≡ None) (λ _. above low high bs (n * 10 + (b - 48)) (omega arith)) (λ _. refl)

pub next_digit : (bs : List ℕ) (i n : ℕ) → i < length bs → is_ascii_digit (get_or bs i 0) ≡ true → digits n (drop i bs) ≡ digits (n * 10 + (get_or bs i 0 - 48)) (drop (i + 1) bs)
next_digit bs i n h d = at_drop_more (digits n) bs i 0 h ∙ cond-true _ _ _ d
