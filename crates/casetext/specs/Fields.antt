-- What a field must be, and what is wrong with one that is not.
use Rattle.std.specs.Prelude.{ℕ, ◌-◌, Bool, true, false, cond, not, ◌&&◌, ◌||◌, List, length, is_some, Some, None, codes, Option, ◌==◌, nat_lt, slice_index}
use Rattle.std.specs.List.{between, list_all}
use Rattle.std.specs.Option.{option_map}
use Rattle.std.specs.Str.{bytes_eq}
use Rattle.game.specs.declared.bounds.Bound.{Bound}
use Rattle.game.specs.declared.bounds.Bounds.{Bounds}
use Rattle.game.specs.Intervals.{inhabited, bounded}
use Rattle.casetext.specs.declared.fault.TextFault.{TextFault}
use Rattle.casetext.specs.declared.fault.TextFault.TheVariants.{OutOfForm, OutOfPlace, BadInterval, UnknownEnd}
use Rattle.casetext.specs.declared.line.Form.{Form}
use Rattle.casetext.specs.declared.line.Form.TheVariants.{Head, Number, Interval, Owner, End, Letters, Choice}
use Rattle.casetext.specs.Text.{number, before, behind}

-- The largest numbers that may be written

abbrev pub max_bound : ℕ
max_bound = 15

abbrev pub max_location : ℕ
max_location = 31

abbrev pub max_edge : ℕ
max_edge = 63

-- Words, by their bytes

abbrev pub us : List ℕ
us = codes "us"

abbrev pub them : List ℕ
them = codes "them"

-- no upper bound, no edge, no clocks
abbrev pub dash : List ℕ
dash = codes "-"

-- Intervals, as `[1,3)` and `(0,-)`

infixl 20 ◌>>=◌
abbrev pub ◌>>=◌ : {X Y : Type 0} → Option X → (X → Option Y) → Option Y
◌>>=◌ None f = None
◌>>=◌ (Some x) f = f x

abbrev pub comma : ℕ
comma = 44

-- whether a bracket is round
abbrev pub bracket : ℕ → ℕ → ℕ → Option Bool
bracket square round b = cond (b == square) (Some false) (cond (b == round) (Some true) None)

-- `[` and `(`
abbrev pub opening : ℕ → Option Bool
opening = bracket 91 40

-- `]` and `)`
abbrev pub closing : ℕ → Option Bool
closing = bracket 93 41

-- a number beside a round bracket is left out
abbrev pub bound : Bool → List ℕ → Option Bound
bound round f = option_map (λ n. record { at = n; «open» = round }) (number 0 max_bound f)

-- `-` is no bound, and takes a round bracket
abbrev pub upper : Bool → List ℕ → Option (Option Bound)
upper round f = cond (bytes_eq f dash) (cond round (Some None) None) (option_map Some (bound round f))

-- what stands between the first byte and the last
abbrev pub inner : List ℕ → List ℕ
inner f = between 1 (length f - 1) f

-- a bracket, the lower bound, a comma, the upper bound and a bracket
abbrev pub interval : List ℕ → Option Bounds
interval f = do
  from ← opening (slice_index f 0)
  to ← closing (slice_index f (length f - 1))
  low ← bound from (before comma (inner f))
  rest ← behind comma (inner f)
  high ← upper to rest
  Some (record { low = low; high = high })

-- Letters

-- `r` resets a clock, and `k` keeps it
abbrev pub reset_letter : ℕ
reset_letter = 114

abbrev pub keep_letter : ℕ
keep_letter = 107

abbrev pub all_letters : List ℕ → Bool
all_letters = list_all (λ b. b == reset_letter || b == keep_letter)

-- one for each of n clocks, or `-` without clocks
abbrev pub letters : ℕ → List ℕ → Bool
letters n f = cond (n == 0) (bytes_eq f dash) (length f == n && all_letters f)

-- What is wrong with the field i of line n

abbrev pub unless : Bool → TextFault → Option TextFault
unless fine fault = cond fine None (Some fault)

-- an interval contains a reading, and no bound is above the ceiling
abbrev pub wrong_interval : TextFault → TextFault → ℕ → Option Bounds → Option TextFault
wrong_interval form fault ceiling None = Some form
wrong_interval form fault ceiling (Some b) = unless (inhabited b && bounded ceiling b) fault

-- a location is one of those above
abbrev pub wrong_end : TextFault → TextFault → ℕ → Option ℕ → Option TextFault
wrong_end form fault count None = Some form
wrong_end form fault count (Some l) = unless (nat_lt l count) fault

abbrev pub wrong : ℕ → ℕ → Form → List ℕ → Option TextFault
wrong n i (Head misplaced) f = unless (not misplaced) (OutOfPlace n)
wrong n i (Number low high) f = unless (is_some (number low high f)) (OutOfForm n i)
wrong n i (Interval ceiling) f = wrong_interval (OutOfForm n i) (BadInterval n i) ceiling (interval f)
wrong n i Owner f = unless (bytes_eq f us || bytes_eq f them) (OutOfForm n i)
wrong n i (End locations) f = wrong_end (OutOfForm n i) (UnknownEnd n i) locations (number 0 max_location f)
wrong n i (Letters clocks) f = unless (letters clocks f) (OutOfForm n i)
wrong n i Choice f = unless (bytes_eq f dash || is_some (number 0 max_edge f)) (OutOfForm n i)
