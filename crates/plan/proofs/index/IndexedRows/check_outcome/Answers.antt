use Rattle.std.proofs.Common.{◌≡◌, List, ◌++◌, length, Some, sym, ap, ◌∙◌, subst, arith, rules}
use Rattle.table.specs.Colours.{colour_of}
use Rattle.table.specs.Rows.{row_after, first_row}
use Rattle.plan.specs.declared.passage.Passage.{Passage}
use Rattle.plan.proofs.Visits.{outcome_ok, passage_is, passage_next}
use Rattle.plan.proofs.index.IndexedRows.check_outcome.Goals as goal

pub visit-requires : goal.visit-requires
visit-requires g c =
    let table = c.args.self.now in
    let b = c.args.branch in
    let o = b.outcome.now in
    let m = g.A.Arena.meaning table.arena.now in
    let leads : row_after m table.rows.now b.latch o ≡ Some c.in_ok-to.to =
    ap (first_row m table.rows.now o.position) (sym c.latch_after-next.ensures) ∙ sym c.row_of.ensures ∙ c.in_ok-to.ensures.ok_part in
    let r = c.requires.ready in
    let is : c.colour_of.result ≡ colour_of b.latch o = search rules in
    (r.0, (r.1.0, passage_next m table.rows.now b.row b.latch b.number c.in_ok-to.to c.colour_of.result o leads is (omega arith) (omega arith) r.0 r.1.1))

pub returns-then-visit : goal.returns-then-visit
returns-then-visit g c =
    let table = c.args.self.now in
    let rows = table.rows.now in
    let b = c.args.branch in
    let m = g.A.Arena.meaning table.arena.now in
    let s = b.row in
    let l = b.latch in
    let i = b.number in
    let t = c.in_ok-to.to in
    let o = b.outcome.now in
    let k = c.colour_of.result in
    let leads : row_after m rows l o ≡ Some t = ap (first_row m rows o.position) (sym c.latch_after-next.ensures) ∙ sym c.row_of.ensures ∙ c.in_ok-to.ensures.ok_part in
    let is : c.colour_of.result ≡ colour_of l o = search rules in
    let seen = g.V.Visitor.seen c.visit.new.self (length rows) in
    record {
      answers = outcome_ok m rows s l i t k o leads is tt (g.V.Visitor.rule c.args.visitor.now (length rows)) (sym c.visit.ensures.ruled ∙ c.if-visit.true);
      same = c.visit.ensures.same;
      shown = λ _ before h up.
          let F : List Passage → Type 0 = λ more. seen (before ++ more) in
          subst F (sym (passage_is m rows s l i t k o leads is))
          (c.visit.ensures.seen before h (passage_next m rows s l i t k o leads is (omega arith) (omega arith) before up));
    }
