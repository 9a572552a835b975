-- What the text of a case says: a game, a table of rows and its ranks, or the first fault.
use Rattle.std.specs.Prelude.{ℕ, ◌+◌, Bool, cond, List, [], ◌∷◌, ◌++◌, map, length, Some, None, Ok, Err, Option, Result, nat_lt, slice_index, slice_index_or}
use Rattle.regions.specs.Types.{Ceilings}
use Rattle.game.specs.declared.parts.TimedPosition.{TimedPosition}
use Rattle.game.specs.Game.{Game, game, start, keeps}
use Rattle.table.specs.declared.row.Row as rows
use Rattle.table.specs.declared.odd.OddColour.{OddColour}
use Rattle.table.specs.declared.odd.OddColour.TheVariants.{One, Three, Five, Seven}
use Rattle.table.specs.Odd.{at}
use Rattle.casetext.specs.declared.fault.TextFault.{TextFault}
use Rattle.casetext.specs.declared.fault.TextFault.TheVariants.{TooLong, UnknownKind, NoStart}
use Rattle.casetext.specs.declared.line.Kind.{Kind}
use Rattle.casetext.specs.declared.line.Kind.TheVariants.{Clock, Loc, Edge, Row}
use Rattle.casetext.specs.Text.{lines, fields}
use Rattle.casetext.specs.Items.{value, max_ceiling, location, edge, row, ranks}
use Rattle.casetext.specs.Lines.{Ranks, Said, kind, forms, line_fault}

-- the game, the rows of the table, and their ranks in one list
pub record Contents : Type 0 where
  pub game : Game
  pub rows : List (rows.Row TimedPosition)
  pub ranks : List ℕ

abbrev pub nothing : Said
nothing = record { ceilings = []; locations = []; edges = []; rows = []; ranks = [] }

-- what a line of this kind without faults adds
abbrev pub added : Said → Kind → List (List ℕ) → Said
added s Clock fs = record { ceilings = s.ceilings ++ value max_ceiling (slice_index_or fs 1 []) ∷ []; locations = s.locations; edges = s.edges; rows = s.rows; ranks = s.ranks }
added s Loc fs = record { ceilings = s.ceilings; locations = s.locations ++ location fs ∷ []; edges = s.edges; rows = s.rows; ranks = s.ranks }
added s Edge fs = record { ceilings = s.ceilings; locations = s.locations; edges = s.edges ++ edge fs ∷ []; rows = s.rows; ranks = s.ranks }
added s Row fs =
    record {
      ceilings = s.ceilings;
      locations = s.locations;
      edges = s.edges;
      rows = s.rows ++ row (length s.ceilings) fs ∷ [];
      ranks = s.ranks ++ ranks (length s.ceilings) fs ∷ [];
    }

abbrev pub unless_fault : Option TextFault → Said → Result Said TextFault
unless_fault None s = Ok s
unless_fault (Some e) s = Err e

-- line n, after what the lines above it have said
abbrev pub read_fields : ℕ → Said → Option Kind → List (List ℕ) → Result Said TextFault
read_fields n s None fs = Err (UnknownKind n)
read_fields n s (Some k) fs = unless_fault (line_fault n (forms s k) fs) (added s k fs)

abbrev pub read_line : ℕ → Said → List ℕ → Result Said TextFault
read_line n s l = read_fields n s (kind (slice_index_or (fields l) 0 [])) (fields l)

-- the lines after line n; the first that has a fault decides
abbrev pub read_lines : ℕ → Result Said TextFault → List (List ℕ) → Result Said TextFault
read_lines n (Err e) ls = Err e
read_lines n (Ok s) [] = Ok s
read_lines n (Ok s) (l ∷ ls) = read_lines (n + 1) (read_line (n + 1) s l) ls

-- ceilings of three clocks, 0 for one that is not there
abbrev pub ceilings_of : List ℕ → Ceilings
ceilings_of cs = record { x = slice_index cs 0; y = slice_index cs 1; z = slice_index cs 2 }

abbrev pub game_of : Said → Game
game_of s = game (ceilings_of s.ceilings) s.locations s.edges

-- the ranks of colour 1 for all rows, then those of 3, 5 and 7
abbrev pub column : OddColour → List Ranks → List ℕ
column c rs = map (at c) rs

abbrev pub rank_list : List Ranks → List ℕ
rank_list rs = column One rs ++ column Three rs ++ column Five rs ++ column Seven rs

-- location 0 is there, and its invariant holds with all clocks at zero
abbrev pub starts : Game → Bool
starts g = keeps g 0 (start g).region

abbrev pub contents : Said → Contents
contents s = record { game = game_of s; rows = s.rows; ranks = rank_list s.ranks }

-- after all lines
abbrev pub finished : Said → Result Contents TextFault
finished s = cond (starts (game_of s)) (Ok (contents s)) (Err NoStart)

abbrev pub concluded : Result Said TextFault → Result Contents TextFault
concluded (Ok s) = finished s
concluded (Err e) = Err e

-- how many bytes a text may have
abbrev pub max_text : ℕ
max_text = 65536

abbrev pub read_text : List ℕ → Result Contents TextFault
read_text text = cond (nat_lt max_text (length text)) (Err TooLong) (concluded (read_lines 0 (Ok nothing) (lines text)))
