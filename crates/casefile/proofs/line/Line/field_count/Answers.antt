use Rattle.std.proofs.Common.{eqb, ap, sym, ◌∙◌, ◌+◌}
use Rattle.std.specs.Prelude.{count_by}
use Rattle.std.proofs.lemmas.List.{take_all}
use Rattle.std.proofs.lemmas.List.Splits.{length-slice_split}
use Rattle.casefile.proofs.line.Line.field_count.Goals as goal

-- the tabs of all bytes, and one
pub returns : goal.returns
returns c =
    let bs = c.args.self.now.bytes.now in
    ap (λ n. n + 1) (c.loop-b.invariant ∙ ap (count_by (λ b. eqb b 9)) (take_all c.loop-b.b-index bs c.loop-b-test.false))
    ∙ sym (length-slice_split (λ b. eqb b 9) bs)
