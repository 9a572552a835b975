-- The worked examples: a small game with a plan, what comes of changes to it, some regions and some intervals.
use Rattle.std.specs.Prelude.{◌≡◌, ℕ, ◌≤◌, cond, List, [], ◌∷◌, ◌++◌, map, length, Some, Ok, Err, codes, Result, ◌==◌}
use Prim.Native.String.{String}
use Rattle.clocks.specs.Regions.{Clock, clock, part, region_of, waits}
use Rattle.table.specs.declared.accepted.Accepted as answers
use Rattle.table.specs.declared.fault.Fault.{Fault}
use Rattle.table.specs.declared.fault.Fault.TheVariants.{NoStartRow, NoRow, RankRule, LosingLoop}
use Rattle.table.specs.Rows.{outcomes_of}
use Rattle.loops.specs.declared.pair.Pair.{Pair}
use Rattle.ranker.specs.Ranked as ranker
use Rattle.game.specs.Timed.{timed_meaning}
use Rattle.casetext.specs.declared.fault.TextFault.{TextFault}
use Rattle.casetext.specs.declared.fault.TextFault.TheVariants.{BadInterval}
use Rattle.casetext.specs.Case.{Contents, read_text}
use Rattle.verdict.specs.declared.verdict.Verdict.TheVariants.{Accepted, Unreadable, Refused}
use Rattle.verdict.specs.Judged.{judged}

-- a text written with spaces for tabs and slashes for line feeds
abbrev pub tabbed : String → List ℕ
tabbed s = map (λ b. cond (b == 32) 9 (cond (b == 47) 10 b)) (codes s)

-- two locations without clocks, our edge there and theirs back, and the rows of a plan
abbrev pub game : List ℕ
game = tabbed "loc 1/loc 2/edge us 0 1 -/edge them 1 0 -/"

abbrev pub row0 : List ℕ
row0 = tabbed "row 0 1 0 0 0 0 1 0 0 0/"

abbrev pub row1 : List ℕ
row1 = tabbed "row 0 2 0 0 2 - 0 0 0 0/"

abbrev pub row2 : List ℕ
row2 = tabbed "row 0 2 0 1 1 - 0 0 0 0/"

abbrev pub row3 : List ℕ
row3 = tabbed "row 1 2 0 0 2 - 0 0 0 0/"

abbrev pub row4 : List ℕ
row4 = tabbed "row 1 2 0 1 1 - 0 0 0 0/"

-- the game with another row 1
abbrev pub with_row1 : List ℕ → List ℕ
with_row1 row = game ++ (row0 ++ (row ++ (row2 ++ (row3 ++ row4))))

-- the numbers of outcomes, row by row, of a case that is read
abbrev pub counts : Result Contents TextFault → List ℕ
counts (Ok c) = map (λ r. length (outcomes_of (timed_meaning c.game) r)) c.rows
counts (Err f) = []

abbrev pub Counts : Type 0
Counts = counts (read_text (with_row1 row1)) ≡ 2 ∷ 4 ∷ 3 ∷ 7 ∷ 5 ∷ []

-- the plan is accepted, with 5 rows and 21 outcomes
abbrev pub Accepts : Type 0
Accepts = judged (with_row1 row1) ≡ Accepted (record { rows = 5; outcomes = 21 })

-- row 1 takes edge 0 without a wait, and so is to blame at outcome 0
abbrev pub blaming : List ℕ
blaming = with_row1 (tabbed "row 0 2 0 0 0 0 0 0 0 0/")

abbrev pub Blames : Type 0
Blames = judged blaming ≡ Refused (RankRule 1 0)

-- with rank 1 there the rule breaks where row 3 leads back to it
abbrev pub Ranked : Type 0
Ranked = judged (with_row1 (tabbed "row 0 2 0 0 0 0 1 0 0 0/")) ≡ Refused (RankRule 3 2)

-- whatever ranks and pairs the ranker is lent for the five rows, it names a losing loop of colour 1
abbrev pub names_loop : Result Contents TextFault → Type 0
names_loop (Err f) = ⊥
names_loop (Ok c) =
    (ranks ranks' : List ℕ) (losing losing' : List Pair) (r : Result answers.Accepted Fault) → length ranks ≡ 20 → 5 ≤ length losing
    → ranker.Ranked (timed_meaning c.game) c.rows ranks losing (ranker.form_faults (timed_meaning c.game) c.rows ranks losing) r ranks' losing'
    → (k : ℕ) × (r ≡ Err (LosingLoop k 1))

abbrev pub Loops : Type 0
Loops = names_loop (read_text blaming)

-- without its last row the plan leaves outcome 3 of row 3 without a row
abbrev pub Misses : Type 0
Misses = judged (game ++ (row0 ++ (row1 ++ (row2 ++ row3)))) ≡ Refused (NoRow 3 3)

-- ceilings 2 and 1, and the tick clock, at scale 10 with readings 13, 7 and 3: the region, the next one, and the one after it
abbrev pub readings : List Clock
readings = clock 2 13 ∷ clock 1 7 ∷ clock 1 3 ∷ []

abbrev pub Regions : Type 0
Regions =
    (region_of 10 readings ≡ part 2 1 1 ∷ part 1 0 2 ∷ part 1 0 1 ∷ [])
    × (waits 1 (region_of 10 readings) ≡ Some (part 2 1 1 ∷ part 1 1 0 ∷ part 1 0 1 ∷ []))
    × (waits 2 (region_of 10 readings) ≡ Some (part 2 1 1 ∷ part 1 2 0 ∷ part 1 0 1 ∷ []))

-- a game of one clock that is read up to its second location, which has this invariant, and has no row
abbrev pub with_invariant : String → List ℕ
with_invariant s = tabbed "clock 3/loc 0 [0,-)/loc 0 " ++ tabbed s

-- [2,2] and (2,3) stand, so that only the start's row is missing; [2,2) contains no reading
abbrev pub Intervals : Type 0
Intervals =
    (judged (with_invariant "[2,2]") ≡ Refused NoStartRow)
    × (judged (with_invariant "(2,3)") ≡ Refused NoStartRow)
    × (judged (with_invariant "[2,2)") ≡ Unreadable (BadInterval 3 3))
