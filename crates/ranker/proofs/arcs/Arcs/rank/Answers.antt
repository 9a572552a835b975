use Rattle.std.proofs.Common.{List, ℕ, sym, subst}
use Rattle.table.specs.declared.odd.OddColour.{OddColour}
use Rattle.table.specs.Odd.{odd}
use Rattle.table.specs.Ranks.{rank_of}
use Rattle.ranker.specs.Lifts.{Smallest}
use Rattle.ranker.proofs.arcs.Arcs.rank.Goals as goal

pub returns-clause-drafted : goal.returns-clause-drafted
returns-clause-drafted c = λ g tells.
    let F : List ℕ → Type 0 = λ xs. (p : OddColour) → Smallest g (odd p) (rank_of xs c.args.self.now.rows (odd p)) in
    subst F (sym c.copy_from_slice.ensures.after) (c.in_ok-draft.ensures.drafted g tells)
