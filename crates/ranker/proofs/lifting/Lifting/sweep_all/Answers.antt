use Rattle.std.proofs.Common.{ℕ, ap, arith}
use Rattle.std.specs.declared.ops.Range.{Range}
use Rattle.ranker.proofs.Orders.{covers_up, covers_down}
use Rattle.ranker.proofs.lifting.Lifting.sweep_all.Goals as goal

pub sweep-requires-clause-covers : goal.sweep-requires-clause-covers
sweep-requires-clause-covers c = covers_up _ _ (omega arith) (omega arith)

pub sweep-requires-else-forward-clause-covers : goal.sweep-requires-else-forward-clause-covers
sweep-requires-else-forward-clause-covers c =
    covers_down _ c.rev.result (omega (arith, ap (λ (r : Range ℕ). r.start) c.rev.ensures.source)) (omega (arith, ap (λ (r : Range ℕ). r.end) c.rev.ensures.source))
