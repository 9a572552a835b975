-- Pieces of a text, and the numbers written in it. A text is a list of bytes.
use Rattle.std.specs.Prelude.{ℕ, ◌+◌, ◌-◌, ◌*◌, cond, ◌&&◌, List, [], ◌∷◌, Some, None, Option, ◌==◌, nat_le}
use Rattle.std.specs.Char.{is_ascii_digit}
use Rattle.std.specs.List.{onto_first, slice_split}

abbrev pub tab : ℕ
tab = 9

abbrev pub line_feed : ℕ
line_feed = 10

-- lines end in a line feed, which the last may lack
abbrev pub lines : List ℕ → List (List ℕ)
lines [] = []
lines (b ∷ bs) = cond (b == line_feed) ([] ∷ lines bs) (onto_first b (lines bs))

-- fields are parted by tabs; every tab parts, and an empty line is one empty field
abbrev pub fields : List ℕ → List (List ℕ)
fields = slice_split (λ b. b == tab)

-- the bytes before the first `sep`, and those behind it
abbrev pub before : ℕ → List ℕ → List ℕ
before sep [] = []
before sep (b ∷ bs) = cond (b == sep) [] (b ∷ before sep bs)

abbrev pub behind : ℕ → List ℕ → Option (List ℕ)
behind sep [] = None
behind sep (b ∷ bs) = cond (b == sep) (Some bs) (behind sep bs)

-- the number that the digits write on after n
abbrev pub digits : ℕ → List ℕ → Option ℕ
digits n [] = Some n
digits n (b ∷ bs) = cond (is_ascii_digit b) (digits (n * 10 + (b - 48)) bs) None

-- a decimal number without leading zeros
abbrev pub numeral : List ℕ → Option ℕ
numeral [] = None
numeral (b ∷ []) = digits 0 (b ∷ [])
numeral (b ∷ c ∷ bs) = cond (b == 48) None (digits 0 (b ∷ c ∷ bs))

-- such a number from low to high
abbrev pub within : ℕ → ℕ → Option ℕ → Option ℕ
within low high None = None
within low high (Some n) = cond (nat_le low n && nat_le n high) (Some n) None

abbrev pub number : ℕ → ℕ → List ℕ → Option ℕ
number low high bs = within low high (numeral bs)
