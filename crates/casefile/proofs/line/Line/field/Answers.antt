use Rattle.std.proofs.Common.{[], eqb, unwrap_or, refl, ap, ◌∙◌, rules}
use Rattle.std.proofs.lemmas.Iterator.Consumers.{nth_from_yields_List}
use Rattle.std.proofs.lemmas.Iterator.Splits.{YieldsList-from_slice_split}
use Rattle.std.proofs.lemmas.Option.{unwrap_or-slice_get}
use borrow.Author.Tests.{tests}
use Rattle.casetext.specs.Text.{fields}
use Rattle.casetext.proofs.Reading.{now_or}
use Rattle.casefile.proofs.line.Line.field.Goals as goal

pub returns : goal.returns
returns c =
    ap (λ x. x.now) c.unwrap_or.ensures ∙ now_or c.nth.result _ refl
    ∙ ap (λ o. unwrap_or o [])
    (nth_from_yields_List c.nth.result _ c.args.i c.nth.ensures.ran
    (YieldsList-from_slice_split _ (λ b. eqb b 9) c.args.self.now.bytes.now c.split.ensures.rest c.split.ensures.done c.split.ensures.closure (λ x b q k. search (rules, tests))))
    ∙ unwrap_or-slice_get (fields c.args.self.now.bytes.now) c.args.i []
