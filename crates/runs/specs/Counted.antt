-- What the rounds of a walk come to, from their outcomes alone, the latest first.
use Rattle.std.specs.Prelude.{ℕ, List, [], ◌∷◌, length, ◌==◌, nat_le}
use Rattle.std.specs.List.{take_while, count_by}
use Rattle.arena.specs.Meaning.{Meaning}
use Rattle.arena.specs.declared.moves.Outcome.{Outcome}
use Rattle.table.specs.Odd.{odd, for_each}
use Rattle.table.specs.Colours.{colour_of, latch_after}
use Rattle.runs.specs.declared.state.Tally.{Tally}

-- the rounds since the last of a colour larger than p
abbrev pub since_larger : ℕ → List ℕ → List ℕ
since_larger p = take_while (λ c. nat_le c p)

-- what a tally of p counts in rounds of these colours
abbrev pub tally_of : ℕ → List ℕ → ℕ
tally_of p colours = count_by (λ c. p == c) (since_larger p colours)

module _ {P : Type 0} (m : Meaning P) where
  -- where the last round led
  abbrev pub last_position : List (Outcome P) → P
  last_position [] = m.start
  last_position (o ∷ past) = o.position

  abbrev pub last_latch : List (Outcome P) → ℕ
  last_latch [] = m.priority m.start
  last_latch (o ∷ past) = latch_after m (last_latch past) o

  abbrev pub colours : List (Outcome P) → List ℕ
  colours [] = []
  colours (o ∷ past) = colour_of (last_latch past) o ∷ colours past

  abbrev pub counted : List (Outcome P) → Tally
  counted past = record { rounds = length past; counts = for_each (λ p. tally_of (odd p) (colours past)) }
