-- Tests by a closure.
use Rattle.std.specs.Prelude.{◌≡◌, Bool}

-- of all answers that a test may give, this is the only one
abbrev pub Says : (Bool → Type 0) → Bool → Type 0
Says answers b = (r : Bool) → answers r → r ≡ b
