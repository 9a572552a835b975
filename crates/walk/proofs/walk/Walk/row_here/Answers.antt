use Rattle.std.proofs.Common.{rules, sym, ◌∙◌}
use Rattle.std.proofs.lemmas.Iterator.{YieldsList-from_slice}
use Rattle.std.proofs.lemmas.Iterator.Search.{find_from_yields_List}
use Rattle.table.specs.Rows.{is_for}
use Rattle.walk.proofs.Finding.{row_found}
use Rattle.walk.proofs.walk.Walk.row_here.Goals as goal

pub returns : goal.returns
returns g c =
    let m = g.A.Arena.meaning c.args.arena.now in
    let w = c.args.self.now.state in
    find_from_yields_List (is_for m w.position w.latch) _ _ c.find.result c.find.ensures.ran (YieldsList-from_slice c.args.rows.now cc) (λ x b q k. search rules)
    ∙ sym (row_found m w.position w.latch c.args.rows.now)
