-- The colour of a round, and the latch after it.
use Rattle.std.specs.Prelude.{ℕ, ◌+◌, max, cond}
use Rattle.arena.specs.Meaning.{Meaning}
use Rattle.arena.specs.declared.moves.Side.{Side}
use Rattle.arena.specs.declared.moves.Side.TheVariants.{Us, Them}
use Rattle.arena.specs.declared.moves.Outcome.{Outcome}

-- a round without a tick has colour 1 if our move was carried out, else 0
abbrev pub side_colour : Side → ℕ
side_colour Us = 1
side_colour Them = 0

-- a round that ticks has the colour of the latch before it plus 2
abbrev pub colour_of : {P : Type 0} → ℕ → Outcome P → ℕ
colour_of latch o = cond o.ticked (latch + 2) (side_colour o.by)

-- after a tick the latch is the new priority, else the larger of itself and the new priority
abbrev pub latch_after : {P : Type 0} → Meaning P → ℕ → Outcome P → ℕ
latch_after m latch o = cond o.ticked (m.priority o.position) (max latch (m.priority o.position))
