use Rattle.std.proofs.Common.{◌<◌, length}
use Rattle.loops.specs.Graph.{Graph}
use Rattle.ranker.specs.Arcs.{Tells}
use Rattle.ranker.specs.Lifts.{rank_in, pick_in}
use Rattle.ranker.proofs.Writing.{Along}
use Rattle.ranker.proofs.lifting.Lifting.write_ring.Given as goal

abbrev pub invariant-loop-k : goal.invariant-loop-k
invariant-loop-k l =
    let arcs = l.self.arcs.list.now in
    let ranks = l.self.ranks.now in
    (l.at < length ranks) × (0 < rank_in ranks l.at) × (l.k < length ranks)
    × ((g : Graph) → Tells (length ranks) arcs g → Along g (pick_in arcs l.self.by) l.row l.k l.at l.initial.losing l.losing)
