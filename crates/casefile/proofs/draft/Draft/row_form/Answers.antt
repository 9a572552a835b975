use Rattle.std.proofs.Common.{◌+◌, ◌*◌, ◌<◌, length, vec_items, sym, ◌∙◌, arith}
use Rattle.std.proofs.lemmas.Bool.{cond-true, cond-false, eq-eqb, ne_eqb}
use Rattle.casetext.specs.declared.line.Form.TheVariants.{Owner}
use Rattle.casetext.proofs.Layouts.{row_standing, row_end_at, row_rank}
use Rattle.casefile.proofs.draft.Draft.row_form.Goals as goal
use Rattle.casefile.proofs.draft.Draft.row_form.Goals.{then-i-steps+else-i-eq0, else-i-steps}

pub returns-in_default : goal.returns-in_default
returns-in_default c =
    let cs = vec_items c.args.self.now.ceilings.items in
    let high : c.args.i < 4 + 2 * length cs = omega arith in
    c.up_to-in_default.ensures ∙ sym (row_standing cs c.args.i Owner (omega arith) high ∙ cond-true _ _ _ (eq-eqb _ 0 c.if-i-eq0.true))

pub returns-in_default-2 : goal.returns-in_default-2
returns-in_default-2 c =
    let cs = vec_items c.args.self.now.ceilings.items in
    let high : c.args.i < 4 + 2 * length cs = omega arith in
    elim c.if-i-steps.branch [
      | then-i-steps+else-i-eq0 w ↦ c.up_to-in_default-2.ensures ∙ sym (row_standing cs c.args.i Owner (omega arith) high ∙ cond-false _ _ _ (ne_eqb _ 0 w.if-i-eq0.false))
      | else-i-steps w ↦ absurd (omega arith)
    ]

pub returns-in_default-3 : goal.returns-in_default-3
returns-in_default-3 c = c.up_to-in_default-3.ensures ∙ sym (row_end_at (vec_items c.args.self.now.ceilings.items) c.args.i Owner 0 (omega arith))

pub returns-in_default-4 : goal.returns-in_default-4
returns-in_default-4 c = sym (row_end_at (vec_items c.args.self.now.ceilings.items) c.args.i Owner 1 (omega arith))

pub returns-in_default-5 : goal.returns-in_default-5
returns-in_default-5 c = c.up_to-in_default-5.ensures ∙ sym (row_rank (vec_items c.args.self.now.ceilings.items) c.args.i Owner (omega arith) c.requires)
