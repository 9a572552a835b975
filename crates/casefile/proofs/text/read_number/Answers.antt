use Rattle.std.proofs.Common.{◌+◌, ◌-◌, ◌*◌, get_or, drop, sym, ap, ◌∙◌, arith}
use Rattle.casetext.specs.Text.{within}
use Rattle.casetext.proofs.Numbers.{above, next_digit}
use Rattle.casefile.proofs.text.read_number.Goals as goal

pub returns-then-n-from : goal.returns-then-n-from
returns-then-n-from c =
    let e = next_digit c.args.field.now c.loop-b.b-index c.loop-b.n c.loop-b-test.true (sym c.if-not-is_ascii_digit.ensures.value) in
    sym (c.loop-b.invariant.1 ∙ ap (within _ _) e ∙ above c.args.low c.args.high (drop (c.loop-b.b-index + 1) c.args.field.now) (c.loop-b.n * 10 + (get_or c.args.field.now c.loop-b.b-index 0 - 48)) (omega arith))
