use Rattle.std.proofs.Common.{◌≡◌, ℕ, ◌+◌, ◌*◌, ◌<◌, get_or}
use Rattle.loops.specs.Graph.{Graph}
use Rattle.ranker.specs.Arcs.{Tells}
use Rattle.ranker.specs.Lifts.{Smallest}
use Rattle.ranker.proofs.arcs.Arcs.draft.Given as goal

abbrev pub invariant-loop-q : goal.invariant-loop-q
invariant-loop-q l =
    (l.losing ≡ l.initial.losing)
    × ((g : Graph) → Tells l.n l.self.list.now g → (j : ℕ) → j < l.q → Smallest g (2 * j + 1) (λ s. get_or l.draft (j * l.n + s) 0))
