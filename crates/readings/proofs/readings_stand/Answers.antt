use Rattle.readings.proofs.Laws.{begins, refines, elapses, restarts, ticks, times}
use Rattle.readings.proofs.Times.{lasts, stops}
use Rattle.readings.proofs.readings_stand.Goals as goal

pub returns : goal.returns
returns c =
    record {
      begins = begins;
      refines = refines;
      elapses = elapses;
      restarts = restarts;
      ticks = ticks;
      timed = times;
      lasts = lasts;
      stops = stops;
    }
