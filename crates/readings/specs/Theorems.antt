-- What holds of readings at a scale, and of their regions.
use Rattle.std.specs.Prelude.{◌≡◌, ℕ, ◌+◌, ◌*◌, cond, map, Some, ◌==◌, nat_le, nat_lt}
use Rattle.clocks.specs.Regions.{part, region_of, waits, later, ranked, zeroed}
use Rattle.regions.specs.Types.{Ceilings, Restart}
use Rattle.regions.specs.declared.standing.Clocks.{Clocks}
use Rattle.regions.specs.Code.{limits, flags}
use Rattle.regions.specs.Standing.{standing}
use Rattle.readings.specs.declared.scaled.Readings.{Readings}
use Rattle.readings.specs.View.{clocks_of, view, begun, refined, delayed, reset, region_in}
use Rattle.readings.specs.Time.{Timing, timing, round, refine, after}

-- at first all clocks stand at zero, but for one that the game does not have, which stands past its ceiling
abbrev pub Begins : Type 0
Begins =
    (c : Ceilings) (r : Readings) → Some (view r) ≡ begun c
    → region_in (view r) ≡ map (λ u. part u (cond (u == 0) 1 0) 0) (limits c)

-- a finer scale shows the same region
abbrev pub Refines : Type 0
Refines = (k : ℕ) (r s : Readings) → Some (view s) ≡ refined k (view r) → region_in (view s) ≡ region_in (view r)

-- a delay leads where it would if readings were not held, and that is the region after some wait
abbrev pub Elapses : Type 0
Elapses =
    (d : ℕ) (r s : Readings) → view s ≡ delayed d (view r)
    → (region_in (view s) ≡ region_of r.scale (later d (clocks_of r))) × ((n : ℕ) × (waits n (region_in (view r)) ≡ Some (region_in (view s))))

-- clocks restart in their region as in their readings
abbrev pub Restarts : Type 0
Restarts = (b : Restart) (r s : Readings) → view s ≡ reset (flags b) (view r) → region_in (view s) ≡ ranked (zeroed (flags b) (region_in (view r)))

-- the tick clock has reached a unit in the readings just when it has in their region
abbrev pub Ticks : Type 0
Ticks = (r : Readings) (q : Clocks) → standing q ≡ region_in (view r) → nat_le r.scale r.grains.tick ≡ nat_lt 0 q.region.tick.whole

-- the time that readings keep, with t grains gone by and n ticks
abbrev pub timed : Readings → ℕ → ℕ → Timing
timed r t n = timing r.scale r.grains.tick t n

-- a delay and restarts, the tick clock's if it has reached a unit, are a round of time; a finer scale refines it
pub record Timed : Type 0 where
  pub rounds : (d t n : ℕ) (b : Restart) (r s q : Readings)
      → view s ≡ delayed d (view r) → b.tick ≡ nat_le s.scale s.grains.tick → view q ≡ reset (flags b) (view s)
      → timed q (t + d) (n + cond b.tick 1 0) ≡ after (round d) (timed r t n)
  pub refines : (k t n : ℕ) (r s : Readings) → Some (view s) ≡ refined k (view r) → timed s (k * t) n ≡ after (refine k) (timed r t n)
