use Rattle.std.proofs.Common.{subst}
use Rattle.std.specs.Iterator.{Yields}
use Rattle.table.specs.Odd.{odd}
use Rattle.ranker.proofs.Sweeps.{moved_met, moved_all, same_trans, same_met}
use Rattle.ranker.proofs.lifting.Lifting.sweep.Goals as goal

pub loop-k-preserved : goal.loop-k-preserved
loop-k-preserved g c =
    let was = c.args.self.now in
    let ranks = c.lift.new.self.ranks.now in
    let met = c.in_default.ensures.moved in (
      rw met.0 c.loop-k.invariant.0,
      same_trans c.loop-k.invariant.1 c.in_default.ensures.same,
      moved_met was.arcs.list.now (odd was.colour) was.ranks.now c.loop-k.yielded c.loop-k.self.ranks.now ranks c.in-Some.k c.loop-k.last met.0
          (same_met c.loop-k.invariant.1 ranks c.in-Some.k met.1) c.loop-k.invariant.2,
    )

pub returns-clause-moved : goal.returns-clause-moved
returns-clause-moved g c =
    let was = c.args.self.now in
    let Y : g.row.I.Denot → Type 0 = λ s. Yields g.I.Iterator.next_gives s c.loop-k.yielded c.loop-k.k-iterator in
    let yielded : Y c.args.places = subst Y c.into_iter-k-iterator.ensures.into_iter_gives c.loop-k.yielded_by in
    moved_all was.arcs.list.now (odd was.colour) was.ranks.now c.loop-k.yielded c.loop-k.self.ranks.now c.loop-k.last
    (c.requires.covers.whole c.loop-k.yielded c.loop-k.k-iterator c.next.new.self yielded c.in-None.ensures.steps) c.loop-k.invariant.2
