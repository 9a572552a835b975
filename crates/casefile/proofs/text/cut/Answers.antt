use Rattle.std.proofs.Common.{◌≡◌, ◌+◌, eqb, Some, None, sym, ◌∙◌, ap, rules}
use Rattle.std.specs.List.{position}
use Rattle.std.proofs.lemmas.List.{take_rest}
use Rattle.std.proofs.lemmas.Iterator.{YieldsList-from_slice}
use Rattle.std.proofs.lemmas.Iterator.Search.{position_from_yields_List}
use borrow.Author.Tests.{tests}
use Rattle.casetext.proofs.Splits.{cut_some, cut_none}
use Rattle.casefile.proofs.text.cut.Goals as goal

found : (c : goal.After-result-1) → position (λ b. eqb b c.args.sep) c.args.text.now ≡ Some c.in-Some.i
found c = sym (position_from_yields_List (λ b. eqb b c.args.sep) _ _ c.position.result c.position.ensures.ran (YieldsList-from_slice c.args.text.now cc) (λ x b q k. search (rules, tests))) ∙ c.in-Some.is

lacking : (c : goal.In-None) → position (λ b. eqb b c.args.sep) c.args.text.now ≡ None
lacking c = sym (position_from_yields_List (λ b. eqb b c.args.sep) _ _ c.position.result c.position.ensures.ran (YieldsList-from_slice c.args.text.now cc) (λ x b q k. search (rules, tests))) ∙ c.in-None.is

pub returns-in-Some-clause-front : goal.returns-in-Some-clause-front
returns-in-Some-clause-front c = sym (cut_some c.args.sep c.args.text.now c.in-Some.i (found c)).0

pub returns-in-Some-clause-rest : goal.returns-in-Some-clause-rest
returns-in-Some-clause-rest c = ap Some (take_rest c.args.text.now (c.in-Some.i + 1)) ∙ sym (cut_some c.args.sep c.args.text.now c.in-Some.i (found c)).1

pub returns-in-None-clause-front : goal.returns-in-None-clause-front
returns-in-None-clause-front c = sym (cut_none c.args.sep c.args.text.now (lacking c)).0

pub returns-in-None-clause-rest : goal.returns-in-None-clause-rest
returns-in-None-clause-rest c = sym (cut_none c.args.sep c.args.text.now (lacking c)).1
