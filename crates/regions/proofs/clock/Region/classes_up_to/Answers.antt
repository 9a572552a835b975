use Rattle.std.proofs.Common.{true, false, sym, ◌∙◌, add-zero, arith}
use Rattle.clocks.specs.Regions.{seen}
use Rattle.clocks.proofs.Counts.{upto_le}
use Rattle.regions.specs.Code.{unceiled}
use Rattle.regions.proofs.Owning.{upto_more}
use Rattle.regions.proofs.clock.Region.classes_up_to.Goals as goal

pub overflow_add-count : goal.overflow_add-count
overflow_add-count c = omega (arith, upto_le (seen (unceiled c.args.self)) c.loop-below.below)

pub loop-below-preserved : goal.loop-below-preserved
loop-below-preserved c = elim c.if-has_class.branch [
  | goal.then-has_class w ↦ upto_more (seen (unceiled c.args.self)) c.loop-below.below c.loop-below.count c.if-has_class.count true c.loop-below.invariant w.if-has_class.ensures w.count-is
  | goal.else-has_class w ↦ upto_more (seen (unceiled c.args.self)) c.loop-below.below c.loop-below.count c.if-has_class.count false c.loop-below.invariant w.if-has_class.ensures (w.count-is ∙ sym (add-zero c.loop-below.count))
]
