use Rattle.std.proofs.Common.{rules, of_calls, Option, Result, None, Some, Ok, Err, ◌≡◌, ◌+◌, ◌<◌, ◌^◌, false, length, eqb, refl, inl, ap, ◌∙◌, sym, arith}
use Rattle.std.specs.Option.{MatchOption}
use Rattle.std.specs.Result.{result_err}
use Rattle.std.proofs.lemmas.Bool.{cond-true, eq-eqb}
use Rattle.std.proofs.lemmas.List.FromFn.{get_or-enumerate_from, length-enumerate_from}
use Rattle.std.proofs.lemmas.Iterator.Adapters.{serves_from_places}
use Rattle.std.proofs.lemmas.Iterator.Consumers.{YieldsList-at, YieldsList-from_enumerate, YieldsList-from_filter_map}
use Rattle.std.proofs.lemmas.Iterator.Splits.{YieldsList-from_slice_split}
use borrow.Author.Tests.{tests}
use Rattle.casetext.specs.declared.fault.TextFault.{TextFault}
use Rattle.casetext.specs.Text.{fields}
use Rattle.casetext.specs.Lines.{forms}
use Rattle.casetext.proofs.Faults.{wrong_at, wrongs_are, least_from}
use Rattle.casefile.specs.Draft.{said}
use Rattle.casefile.proofs.lines.check_line.Goals as goal

pub min_by_key-requires-clause-can : goal.min_by_key-requires-clause-can
min_by_key-requires-clause-can c =
    let fs = fields c.args.line.now.bytes.now in
    let ms = forms (said c.args.draft.now) c.args.kind in
    let f = c.filter_map.result.f in
    let source = c.filter_map.ensures.source in
    let short : length c.args.line.now.bytes.now + 1 < 2 ^ 64 = search rules in
    let first : c.filter_map.result.iter.count ≡ 0 = ap (λ i. i.count) source ∙ c.enumerate.ensures.count in
    let some : c.filter_map.result.iter.iter.done ≡ false = ap (λ i. i.iter.done) source ∙ ap (λ i. i.done) c.enumerate.ensures.source ∙ c.split.ensures.done in
    let whole : c.filter_map.result.iter.iter.rest.now ≡ c.args.line.now.bytes.now = ap (λ i. i.iter.rest.now) source ∙ ap (λ i. i.rest.now) c.enumerate.ensures.source ∙ c.split.ensures.rest in
    let full : length fs ≡ length ms = sym c.field_count-present.ensures ∙ c.if-present-needed.false ∙ c.fields_needed-needed.ensures.count in
    let same : length (forms (said f.0.now) f.1.now) ≡ length ms = ap (λ w. length (forms (said w.0.now) w.1.now)) c.filter_map.ensures.closure in (
      (search of_calls, tt, inl (rw (first, some, whole) (omega (arith, short)))),
      tt,
      serves_from_places
          (YieldsList-at c.filter_map.ensures.source
          (YieldsList-from_enumerate
          (YieldsList-at c.enumerate.ensures.source
          (YieldsList-from_slice_split _ (λ b. eqb b 9) c.args.line.now.bytes.now c.split.ensures.rest c.split.ensures.done c.split.ensures.closure (λ x b q k. search (rules, tests))))
          c.enumerate.ensures.count))
          (λ x q r. search rules)
          (λ x k l e.
          let place : x.0 ≡ k = ap (λ p. p.0) (e ∙ get_or-enumerate_from 0 fs k (x.0, x.1.now) (omega (arith, length-enumerate_from 0 fs))) ∙ omega arith in
          let there : x.0 < length (forms (said f.0.now) f.1.now) = omega (arith, same, full, place, l, length-enumerate_from 0 fs) in
          search rules),
    )

-- an error, if there is a fault
erring : (o : Option TextFault) (r : Result (Unit {0}) TextFault) → MatchOption o (r ≡ Ok tt) (λ x. r ≡ Err x) → result_err r ≡ o
erring None r e = ap result_err e
erring (Some x) r e = ap result_err e

pub returns : goal.returns
returns c =
    let ms = forms (said c.args.draft.now) c.args.kind in
    let fs = fields c.args.line.now.bytes.now in
    let n = c.args.line.now.number in
    let full : length fs ≡ length ms = sym c.field_count-present.ensures ∙ c.if-present-needed.false ∙ c.fields_needed-needed.ensures.count in
    erring _ _ c.map_or.ensures
    ∙ least_from _ _ _ (λ x y. refl) (λ x k q h. search (rules, tests)) c.min_by_key.result c.min_by_key.ensures.ran
    (YieldsList-from_filter_map _ (wrong_at n ms)
    (YieldsList-at c.filter_map.ensures.source
    (YieldsList-from_enumerate
    (YieldsList-at c.enumerate.ensures.source
    (YieldsList-from_slice_split _ (λ b. eqb b 9) c.args.line.now.bytes.now c.split.ensures.rest c.split.ensures.done c.split.ensures.closure (λ x b q k. search (rules, tests))))
    c.enumerate.ensures.count))
    c.filter_map.ensures.closure (λ x r q h. search (rules, tests)))
    ∙ wrongs_are n ms 0 fs (omega (arith, full))
    ∙ sym (cond-true _ _ _ (eq-eqb _ _ full))
