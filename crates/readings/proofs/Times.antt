-- Time goes by with ticks, and less than a unit without.
use Rattle.std.proofs.Common.{◌≡◌, ℕ, ◌+◌, ◌*◌, ◌<◌, ◌≤◌, Bool, true, false, cond, List, [], ◌∷◌, sym, refl, ap, ◌∙◌, inl, inr, mul_assoc, add-mul, mul-le-mul_left, mul-pos, mul-one, mul-add, mul_left_comm, arith}
use native.Mathlib.Nat.{mul-lt-mul_of_pos_left}
use Rattle.std.proofs.lemmas.Bool.{cases_Bool, leb-true, leb-false, cond-true, cond-false}
use Rattle.readings.specs.Time.{Event, round, refine, Timing, timing, grown, rings, after, after_all, scaling, scalings, Finer, since, Lasts, Stops}

-- the time of the ticks and the tick clock's reading are within the time that went by
abbrev Within : Timing → Type 0
Within s = s.ticks * s.scale + s.reading ≤ s.time

within_after : (e : Event) (s : Timing) → Within s → Within (after e s)
within_after (round d) s h = at (rings d s) refl
  where
    at : (b : Bool) → rings d s ≡ b → (s.ticks + cond b 1 0) * s.scale + cond b 0 (grown d s) ≤ s.time + d
    at true e = let l = leb-true s.scale (grown d s) e in omega (arith, add-mul s.ticks 1 s.scale)
    at false e = omega (arith, add-mul s.ticks 0 s.scale)
within_after (refine k) s h =
    let l : k * (s.ticks * s.scale + s.reading) ≤ k * s.time = mul-le-mul_left k h in
    omega (arith, mul-add k (s.ticks * s.scale) s.reading, mul_left_comm k s.ticks s.scale)

within_all : (es : List Event) (s : Timing) → Within s → Within (after_all es s)
within_all [] s h = h
within_all (e ∷ es) s h = within_all es (after e s) (within_after e s h)

pub lasts : Lasts
lasts D es = let h : Within (since D es) = within_all es (timing D 0 0 0) (omega arith) in omega arith

-- after each round the tick clock reads less than a unit
pub record Short (s : Timing) : Type 0 where
  pub unit : 0 < s.scale
  pub below : s.reading < s.scale

short_after : (e : Event) (s : Timing) → 0 < scaling e → Short s → Short (after e s)
short_after (round d) s f h = record { unit = h.unit; below = at (rings d s) refl }
  where
    at : (b : Bool) → rings d s ≡ b → cond b 0 (grown d s) < s.scale
    at true e = h.unit
    at false e = leb-false s.scale (grown d s) e
short_after (refine k) s f h = record { unit = mul-pos f h.unit; below = mul-lt-mul_of_pos_left h.below f }

short_all : (es : List Event) (s : Timing) → Finer es → Short s → Short (after_all es s)
short_all [] s f h = h
short_all (e ∷ es) s f h = short_all es (after e s) f.1 (short_after e s f.0 h)

ticks_more : (es : List Event) (s : Timing) → s.ticks ≤ (after_all es s).ticks
ticks_more [] s = omega arith
ticks_more (round d ∷ es) s = let m = ticks_more es (after (round d) s) in omega arith
ticks_more (refine k ∷ es) s = ticks_more es (after (refine k) s)

-- while no round ticks, the tick clock's reading grows with time
grows : (es : List Event) (s : Timing) → Finer es → Short s → (after_all es s).ticks ≡ s.ticks
    → (after_all es s).time + scalings es * s.reading ≡ scalings es * s.time + (after_all es s).reading
grows [] s f h e = omega arith
grows (round d ∷ es) s f h e = elim (cases_Bool (rings d s)) [
  | inl t ↦
      let m = ticks_more es (after (round d) s) in
      let one : ◌≡◌ {A = ℕ} (cond (rings d s) 1 0) 1 = cond-true (rings d s) 1 0 t in
      let w : ⊥ = omega arith in
      absurd w
  | inr t ↦
      let q = after (round d) s in
      let k = scalings es in
      let none : ◌≡◌ {A = ℕ} (cond (rings d s) 1 0) 0 = cond-false (rings d s) 1 0 t in
      let same : s.ticks + cond (rings d s) 1 0 ≡ s.ticks = omega arith in
      let small = leb-false s.scale (grown d s) t in
      let read : cond (rings d s) 0 (grown d s) ≡ s.reading + d = cond-false (rings d s) 0 (grown d s) t ∙ omega arith in
      let m = grows es q f.1 (short_after (round d) s f.0 h) (e ∙ sym same) in
      omega (arith, ap (λ n. k * n) read, mul-add k s.reading d, mul-add k s.time d, mul-one k)
]
grows (refine k ∷ es) s f h e =
    let m = grows es (after (refine k) s) f.1 (short_after (refine k) s f.0 h) e in
    omega (arith, mul_assoc (scalings es) k s.reading, mul_assoc (scalings es) k s.time)

pub stops : Stops
stops D es fs z f g e =
    let h : Short (since D es) = short_all es (timing D 0 0 0) f (record { unit = z; below = z }) in
    let l = (short_all fs (since D es) g h).below in
    let m = grows fs (since D es) g h e in
    omega arith
