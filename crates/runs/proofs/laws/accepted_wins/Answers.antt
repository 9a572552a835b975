use Rattle.runs.proofs.Walks.{walks}
use Rattle.runs.proofs.Endlessly.{latch_at, colours_fade, ours_stop, odd_ticks_stop, run_of}
use Rattle.runs.proofs.laws.accepted_wins.Goals as goal

pub returns : goal.returns
returns g c =
    let m = g.A.Arena.meaning c.args.arena.now in
    let ok = g.met.A.Arena.lawful c.args.arena.now in
    let rows = c.args.rows.now in
    let ranks = c.args.ranks.now in
    λ a.
    record {
      walks = walks m ok rows ranks a;
      runs = run_of m ok rows ranks a;
      latches = latch_at m rows;
      colours = colours_fade m ok rows ranks a;
      stops = ours_stop m ok rows ranks a;
      goes = odd_ticks_stop m ok rows ranks a;
    }
