-- The lines of a case: what their fields must be, and the first fault of a line.
use Rattle.std.specs.Prelude.{ℕ, ◌+◌, min, Bool, true, false, cond, ◌||◌, List, [], ◌∷◌, ◌++◌, map, length, replicate, Some, None, codes, Option, ◌==◌, nat_le}
use Rattle.std.specs.Str.{bytes_eq}
use Rattle.game.specs.declared.parts.Location.{Location}
use Rattle.game.specs.declared.parts.Edge as edges
use Rattle.game.specs.declared.parts.TimedPosition.{TimedPosition}
use Rattle.table.specs.declared.row.Row as rows
use Rattle.table.specs.declared.odd.PerColour.{PerColour}
use Rattle.casetext.specs.declared.fault.TextFault.{TextFault}
use Rattle.casetext.specs.declared.fault.TextFault.TheVariants.{FieldCount}
use Rattle.casetext.specs.declared.line.Kind.{Kind}
use Rattle.casetext.specs.declared.line.Kind.TheVariants.{Clock, Loc, Edge, Row}
use Rattle.casetext.specs.declared.line.Form.{Form}
use Rattle.casetext.specs.declared.line.Form.TheVariants.{Head, Number, Interval, Owner, End, Letters, Choice}
use Rattle.casetext.specs.Faults.{number_of}
use Rattle.casetext.specs.Fields.{wrong, max_location}
use Rattle.casetext.specs.Items.{max_ceiling, max_priority, max_whole, max_class, max_steps, max_rank}

-- a row's rank for each odd colour
abbrev pub Ranks : Type 0
Ranks = PerColour ℕ

-- What the lines so far have said: the clocks' ceilings, the locations, the edges, and the rows with their ranks
pub record Said : Type 0 where
  pub ceilings : List ℕ
  pub locations : List Location
  pub edges : List edges.Edge
  pub rows : List (rows.Row TimedPosition)
  pub ranks : List Ranks

-- How many lines of a kind there may be

abbrev pub max_clocks : ℕ
max_clocks = 3

abbrev pub max_locations : ℕ
max_locations = 32

abbrev pub max_edges : ℕ
max_edges = 64

abbrev pub max_rows : ℕ
max_rows = 1024

abbrev pub some : {X : Type 0} → List X → Bool
some [] = false
some (x ∷ xs) = true

-- clocks come first, then locations, edges and rows, each no more than there may be: a line is out of place when one
-- of a later kind stands above, or too many of its own
abbrev pub out_of_place : Said → Kind → Bool
out_of_place s Clock = some s.locations || some s.edges || some s.rows || nat_le max_clocks (length s.ceilings)
out_of_place s Loc = some s.edges || some s.rows || nat_le max_locations (length s.locations)
out_of_place s Edge = some s.rows || nat_le max_edges (length s.edges)
out_of_place s Row = nat_le max_rows (length s.rows)

-- the kind that the first field names
abbrev pub kind : List ℕ → Option Kind
kind f =
    cond (bytes_eq f (codes "clock")) (Some Clock)
    (cond (bytes_eq f (codes "loc")) (Some Loc)
    (cond (bytes_eq f (codes "edge")) (Some Edge)
    (cond (bytes_eq f (codes "row")) (Some Row) None)))

-- whole part and class of each clock, the tick clock last
abbrev pub standing : List Form
standing = Number 0 max_whole ∷ Number 0 max_class ∷ []

abbrev pub standings : List ℕ → List Form
standings [] = standing
standings (c ∷ cs) = standing ++ standings cs

-- What the fields of a line must be, after the first: of an edge in a game with so many locations and clocks with
-- these ceilings, of a row, and of each kind

abbrev pub edge_forms : ℕ → List ℕ → List Form
edge_forms locations ceilings = Owner ∷ End locations ∷ End locations ∷ Letters (length ceilings) ∷ map Interval ceilings

abbrev pub row_end : List Form
row_end = Number 0 max_steps ∷ Choice ∷ replicate 4 (Number 0 max_rank)

abbrev pub row_forms : List ℕ → List Form
row_forms ceilings = Number 0 max_location ∷ Number 0 max_priority ∷ (standings ceilings ++ row_end)

abbrev pub rest : Said → Kind → List Form
rest s Clock = Number 1 max_ceiling ∷ []
rest s Loc = Number 0 max_priority ∷ map Interval s.ceilings
rest s Edge = edge_forms (length s.locations) s.ceilings
rest s Row = row_forms s.ceilings

abbrev pub forms : Said → Kind → List Form
forms s k = Head (out_of_place s k) ∷ rest s k

-- the fault with the smaller number, and of equal ones the first
abbrev pub lesser : Option TextFault → Option TextFault → Option TextFault
lesser None b = b
lesser (Some a) None = Some a
lesser (Some a) (Some b) = cond (nat_le (number_of a) (number_of b)) (Some a) (Some b)

-- the least fault of line n in its fields from the i-th on
abbrev pub wrongs : ℕ → ℕ → List Form → List (List ℕ) → Option TextFault
wrongs n i [] fs = None
wrongs n i (m ∷ ms) [] = None
wrongs n i (m ∷ ms) (f ∷ fs) = lesser (wrong n i m f) (wrongs n (i + 1) ms fs)

-- the first fault of line n, whose fields must have these forms: fields that lack or are too many hide all else
abbrev pub line_fault : ℕ → List Form → List (List ℕ) → Option TextFault
line_fault n ms fs = cond (length fs == length ms) (wrongs n 1 ms fs) (Some (FieldCount n (min (length fs) (length ms) + 1)))
