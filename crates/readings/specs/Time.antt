-- Time and ticks: rounds, each a delay in grains of the scale of that moment, and finer scales between them.
use Rattle.std.specs.Prelude.{◌≡◌, ℕ, ◌+◌, ◌*◌, ◌<◌, ◌≤◌, min, Bool, cond, List, [], ◌∷◌, nat_le}
use Rattle.std.specs.List.{AllByRecursion}
use Rattle.regions.specs.Code.{tick_ceiling}

-- a round with its delay, or a scale that is finer by a factor
pub data Event : Type 0 where
  round : ℕ → Event
  refine : ℕ → Event

-- the scale, what the tick clock reads, and since the beginning the time gone by, in grains of this scale, and the ticks
pub record Timing : Type 0 where
  pub scale : ℕ
  pub reading : ℕ
  pub time : ℕ
  pub ticks : ℕ

abbrev pub timing : ℕ → ℕ → ℕ → ℕ → Timing
timing D x t n = record { scale = D; reading = x; time = t; ticks = n }

-- the tick clock after a delay, held as all clocks are
abbrev pub grown : ℕ → Timing → ℕ
grown d s = min (s.reading + d) ((tick_ceiling + 1) * s.scale)

-- a round ticks once the tick clock has reached a unit, and then the clock goes back to zero
abbrev pub rings : ℕ → Timing → Bool
rings d s = nat_le s.scale (grown d s)

abbrev pub after : Event → Timing → Timing
after (round d) s = timing s.scale (cond (rings d s) 0 (grown d s)) (s.time + d) (s.ticks + cond (rings d s) 1 0)
after (refine k) s = timing (k * s.scale) (k * s.reading) (k * s.time) s.ticks

abbrev pub after_all : List Event → Timing → Timing
after_all [] s = s
after_all (e ∷ es) s = after_all es (after e s)

-- how much finer the scale has become
abbrev pub scaling : Event → ℕ
scaling (round d) = 1
scaling (refine k) = k

abbrev pub scalings : List Event → ℕ
scalings [] = 1
scalings (e ∷ es) = scalings es * scaling e

abbrev pub Finer : List Event → Type 0
Finer es = AllByRecursion (λ e. 0 < scaling e) es

-- from the beginning, at D grains to the unit
abbrev pub since : ℕ → List Event → Timing
since D es = after_all es (timing D 0 0 0)

-- at least one unit of time goes by for each tick
abbrev pub Lasts : Type 0
Lasts = (D : ℕ) (es : List Event) → (since D es).ticks * (since D es).scale ≤ (since D es).time

-- while no round ticks, less than one unit of time goes by
abbrev pub Stops : Type 0
Stops =
    (D : ℕ) (es fs : List Event) → 0 < D → Finer es → Finer fs → (after_all fs (since D es)).ticks ≡ (since D es).ticks
    → (after_all fs (since D es)).time < scalings fs * (since D es).time + (after_all fs (since D es)).scale
