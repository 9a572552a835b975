-- The odd colours, and what there is for each of them.
use Rattle.std.specs.Prelude.{ℕ, List, [], ◌∷◌}
use Rattle.table.specs.declared.odd.OddColour.{OddColour}
use Rattle.table.specs.declared.odd.OddColour.TheVariants.{One, Three, Five, Seven}
use Rattle.table.specs.declared.odd.PerColour.{PerColour}

-- all of them, from the smallest on
abbrev pub all : List OddColour
all = One ∷ Three ∷ Five ∷ Seven ∷ []

-- the number of a colour
abbrev pub odd : OddColour → ℕ
odd One = 1
odd Three = 3
odd Five = 5
odd Seven = 7

-- the value of a colour
abbrev pub at : {T : Type 0} → OddColour → PerColour T → T
at One xs = xs.one
at Three xs = xs.three
at Five xs = xs.five
at Seven xs = xs.seven

-- what a function gives for each colour
abbrev pub for_each : {T : Type 0} → (OddColour → T) → PerColour T
for_each f = record { one = f One; three = f Three; five = f Five; seven = f Seven }
