use Rattle.std.proofs.Common.{◌≡◌, ◌+◌, ◌∷◌, [], length, eqb, Ok, Err, Result, sym, ap, ◌∙◌, arith, rules}
use Rattle.std.proofs.lemmas.Bool.Decides.{Decides-eqb}
use Rattle.std.proofs.lemmas.Fn.{always_returns_same}
use Rattle.std.proofs.lemmas.List.{length-append}
use Rattle.std.proofs.lemmas.Result.{err_from_is_err_and}
use Rattle.std.proofs.lemmas.Slice.Eq.{strip_suffix_is}
use borrow.Author.Tests.{tests}
use Rattle.casetext.specs.declared.fault.TextFault.{TextFault}
use Rattle.casetext.specs.Text.{lines, line_feed}
use Rattle.casetext.specs.Lines.{Said}
use Rattle.casetext.specs.Case.{read_line, read_lines}
use Rattle.casetext.proofs.Reading.{next_line}
use Rattle.casetext.proofs.Splits.{first_line}
use Rattle.casefile.specs.Draft.{said}
use Rattle.casefile.proofs.draft.Draft.read_lines.Goals as goal
use Rattle.casefile.proofs.draft.Draft.read_lines.Goals.{After-read_line}

-- the piece without its line feed is the first line of what is left
parted : (c : After-read_line) → lines c.loop-i.i-iterator.iter.rest.now ≡ c.unwrap_or-bytes.result.now ∷ lines c.next.new.self.iter.rest.now
parted c =
    let s = c.in-Some.ensures.steps.0 in
    let tested = always_returns_same _ (λ a r. r ≡ eqb a.0.now line_feed) c.loop-i.i-iterator.iter.pred (λ a r q k. search (rules, tests)) in
    let found = (s.1.2 (λ b. eqb b line_feed) tested).1 in
    let suffix = strip_suffix_is Decides-eqb c.in-Some.line.now (line_feed ∷ []) c.strip_suffix.result c.strip_suffix.ensures.cases in
    first_line c.loop-i.i-iterator.iter.rest.now c.next.new.self.iter.rest.now c.in-Some.line s.1.0 s.0 s.1.1 found c.strip_suffix.result s.2 suffix
    ∙ ap (λ x. x.now ∷ lines c.next.new.self.iter.rest.now) (sym c.unwrap_or-bytes.ensures)

read_on : (c : After-read_line) (r : Result Said TextFault)
    → r ≡ read_line (c.in-Some.i + 1) (said c.loop-i.self) c.unwrap_or-bytes.result.now
    → read_lines 0 (Ok (said c.args.self.now)) (lines c.args.text.now) ≡ read_lines (c.loop-i.i-iterator.count + 1) r (lines c.next.new.self.iter.rest.now)
read_on c r told =
    let n = c.loop-i.i-iterator.count in
    c.loop-i.invariant.1
    ∙ next_line n (said c.loop-i.self) c.loop-i.i-iterator.iter.rest.now c.unwrap_or-bytes.result.now c.next.new.self.iter.rest.now r (parted c) (told ∙ ap (λ i. read_line (i + 1) (said c.loop-i.self) c.unwrap_or-bytes.result.now) c.in-Some.ensures.steps.1)

pub loop-i-preserved : goal.loop-i-preserved
loop-i-preserved c =
    let s = c.in-Some.ensures.steps in (
      omega (arith, ap length s.0.0, length-append c.in-Some.line.now c.next.new.self.iter.rest.now, s.0.1.1),
      read_on (goal.at.loop-i-preserved c).After-read_line (Ok (said c.read_line.new.self)) c.in_ok-read_line.ensures
          ∙ ap (λ n. read_lines n (Ok (said c.read_line.new.self)) (lines c.next.new.self.iter.rest.now)) (sym s.2),
    )

pub returns-in_err-read_line : goal.returns-in_err-read_line
returns-in_err-read_line c =
    let p = err_from_is_err_and c.from_residual.result c.from_residual.ensures.1 in
    rw (p.1, p.2) (sym (read_on (goal.at.returns-in_err-read_line c).After-read_line (Err c.in_err-read_line.field-0.0) c.in_err-read_line.ensures))
