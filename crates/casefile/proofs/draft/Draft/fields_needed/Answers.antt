use Rattle.std.proofs.Common.{length, ap, arith}
use Rattle.casetext.specs.Lines.{forms}
use Rattle.casetext.proofs.Layouts.{length_row}
use Rattle.casefile.specs.Draft.{said}
use Rattle.casefile.proofs.draft.Draft.fields_needed.Goals as goal

pub returns-in-Row-clause-count : goal.returns-in-Row-clause-count
returns-in-Row-clause-count c =
    let s = said c.args.self.now in
    omega (arith, ap (λ k. length (forms s k)) c.in-Row.is, length_row s, c.args.self.now.ceilings.items.ok.0)
