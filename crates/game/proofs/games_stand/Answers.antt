use Rattle.std.proofs.Common.{refl}
use Rattle.game.proofs.games_stand.Goals as goal
use Rattle.game.proofs.Lawfuls.{lawfully}
use Rattle.game.proofs.Readings.{inhabited_stand, measured, suited}
use Rattle.game.proofs.Absents.{absent, stay_absent}
use Rattle.game.proofs.Shorts.{short}
use Rattle.game.proofs.Starts.{starts}
use Rattle.game.proofs.Listings.{listed, by_region, beyond, by_edge}

pub returns : goal.returns
returns c =
    record {
      answer = refl;
      lawfully = lawfully;
      inhabited = inhabited_stand;
      measured = measured;
      suited = suited;
      absent = absent;
      stay_absent = stay_absent;
      short = short;
      starts = starts;
      listed = listed;
      by_region = by_region;
      beyond = beyond;
      by_edge = by_edge;
    }
