use Rattle.std.proofs.Common.{refl}
use Rattle.worked.proofs.Loops.{names_loop_lem}
use Rattle.worked.proofs.worked_stand.Goals as goal

pub returns : goal.returns
returns c =
    record {
      counts = refl;
      accepts = refl;
      blames = refl;
      ranked = refl;
      loops = names_loop_lem;
      misses = refl;
      regions = (refl, refl, refl);
      intervals = (refl, refl, refl);
    }
