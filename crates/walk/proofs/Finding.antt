-- The row of a place is the first that passes the test of it.
use Rattle.std.proofs.Common.{◌≡◌, ℕ, suc, Bool, true, false, cond, List, [], ◌∷◌, Some, None, Option, refl}
use Rattle.std.specs.List.{find}
use Rattle.std.specs.Option.{option_map}
use Rattle.arena.specs.Meaning.{Meaning}
use Rattle.table.specs.declared.row.Row.{Row}
use Rattle.table.specs.Rows.{is_for, first_row}
use Rattle.runs.specs.Walk.{row_of}

module _ {P : Type 0} (m : Meaning P) (p : P) (l : ℕ) where
  by_test : (r : Row P) (rows : List (Row P)) (b : Bool) (s : Option ℕ) (x : Option (Row P)) → row_of rows s ≡ x → row_of (r ∷ rows) (cond b (Some 0) (option_map suc s)) ≡ cond b (Some r) x
  by_test r rows true s x e = refl
  by_test r rows false None x e = e
  by_test r rows false (Some s) x e = e

  pub row_found : (rows : List (Row P)) → row_of rows (first_row m rows p l) ≡ find (is_for m p l) rows
  row_found [] = refl
  row_found (r ∷ rows) = by_test r rows (is_for m p l r) (first_row m rows p l) (find (is_for m p l) rows) (row_found rows)
