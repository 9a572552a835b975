use Rattle.clocks.proofs.regions_stand.Goals as goal
use Rattle.clocks.proofs.Main.{scales_stand, holds_stand, owned_stand, shown_stand, kept_stand, fresh_stand, grains_stand, delays_stand, waits_stand, earlier_stand}
use Rattle.clocks.proofs.Saids.{said_stand}
use Rattle.clocks.proofs.Resets.{guards_stand, restarts_stand}
use Rattle.clocks.proofs.Halves.{leaving_stand, arriving_stand}
use Rattle.clocks.proofs.Measures.{once_stand, ends_stand, few_stand}

pub returns : goal.returns
returns c =
    record {
      scales = scales_stand;
      holds = holds_stand;
      said = said_stand;
      guards = guards_stand;
      restarts = restarts_stand;
      owned = owned_stand;
      shown = shown_stand;
      kept = kept_stand;
      fresh = fresh_stand;
      leaving = leaving_stand;
      arriving = arriving_stand;
      grains = grains_stand;
      delays = delays_stand;
      waits = waits_stand;
      earlier = earlier_stand;
      once = once_stand;
      ends = ends_stand;
      few = few_stand;
    }
