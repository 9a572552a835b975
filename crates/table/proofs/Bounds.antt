-- Latches and colours of a table without faulty places.
use Rattle.std.proofs.Common.{◌≡◌, ℕ, ◌+◌, ◌≤◌, true, false, cond, not, leb, List, [], Some, arith}
use Rattle.std.specs.List.{slice_get}
use Rattle.std.proofs.lemmas.Bool.{and_parts, not-false, leb-true}
use Rattle.arena.specs.Meaning.{Meaning}
use Rattle.arena.specs.declared.moves.Outcome.{Outcome}
use Rattle.arena.specs.declared.moves.Side.{Side}
use Rattle.arena.specs.declared.moves.Side.TheVariants.{Us, Them}
use Rattle.table.specs.declared.row.Row.{Row}
use Rattle.table.specs.declared.fault.Fault.TheVariants.{NotOwn}
use Rattle.table.specs.Colours.{side_colour, colour_of}
use Rattle.table.specs.Check.{when, numbered, is_own, place_faults}
use Rattle.table.proofs.Lists.{append_nil, when_nil, numbered_nil}

pub small_colour : {P : Type 0} (l : ℕ) (o : Outcome P) → l ≤ 5 → colour_of l o ≤ 7
small_colour l o h = elim o.ticked as (λ b. cond b (l + 2) (side_colour o.by) ≤ 7) [ true ↦ omega arith | false ↦ by_side o.by ]
  where
    by_side : (x : Side) → side_colour x ≤ 7
    by_side Us = omega arith
    by_side Them = omega arith

pub small_latch : {P : Type 0} (m : Meaning P) (rows : List (Row P)) → numbered (place_faults m rows) 0 rows ≡ [] → (s : ℕ) (r : Row P) → slice_get rows s ≡ Some r → r.latch ≤ 5
small_latch m rows none s r e =
    let q = append_nil (when (not (is_own m r)) (NotOwn s)) _ (numbered_nil (place_faults m rows) rows none s r e) in
    let own = and_parts (m.owns r.position) _ (not-false _ (when_nil _ _ q.0)) in
    leb-true _ _ (and_parts (leb (m.priority r.position) r.latch) _ own.1).1
