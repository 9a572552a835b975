use Rattle.std.proofs.Common.{◌+◌, Some, None, sym, ap, ◌∙◌, arith}
use Rattle.std.specs.Option.{option_map}
use Rattle.clocks.proofs.Counts.{waits_none, waits_more}
use Rattle.regions.specs.Standing.{standing}
use Rattle.regions.proofs.standing.Clocks.wait.Goals as goal

pub returns-in_err-clocks : goal.returns-in_err-clocks
returns-in_err-clocks c =
    let none = waits_more (standing c.args.self) (standing c.loop.clocks) c.loop.counter None c.loop.invariant c.in_err-clocks.ensures in
    ap (option_map standing) c.from_residual.ensures ∙ sym (waits_none (standing c.args.self) (c.loop.counter + 1) c.args.steps (omega arith) none)

pub loop-preserved : goal.loop-preserved
loop-preserved c =
    waits_more (standing c.args.self) (standing c.loop.clocks) c.loop.counter (Some (standing c.in_ok-clocks.clocks)) c.loop.invariant c.in_ok-clocks.ensures
