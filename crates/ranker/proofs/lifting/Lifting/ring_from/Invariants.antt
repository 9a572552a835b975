use Rattle.std.proofs.Common.{◌≡◌, ℕ, ◌<◌, length}
use Rattle.loops.specs.Graph.{Graph}
use Rattle.loops.specs.Lifting.{after}
use Rattle.ranker.specs.Arcs.{Tells}
use Rattle.ranker.specs.Lifts.{rank_in, pick_in}
use Rattle.ranker.proofs.lifting.Lifting.ring_from.Given as goal

abbrev pub invariant-loop-step : goal.invariant-loop-step
invariant-loop-step l =
    let arcs = l.self.arcs.list.now in
    let ranks = l.self.ranks.now in
    (l.at < length ranks)
    × ((g : Graph) → Tells (length ranks) arcs g →
    (after g (pick_in arcs l.self.by) l._step l.row ≡ l.at)
    × ((j : ℕ) → j < l._step → 0 < rank_in ranks (after g (pick_in arcs l.self.by) j l.row)))
