use Rattle.loops.specs.Table.{graph_of}
use Rattle.loops.proofs.Ranks.{none_losing}
use Rattle.loops.proofs.Tables.{decided}
use Rattle.loops.proofs.loops_decide.Goals as goal

pub returns : goal.returns
returns g c =
    let m = g.A.Arena.meaning c.args.arena.now in
    let rows = c.args.rows.now in
    record { excluded = none_losing (graph_of m rows); decided = decided m rows }
