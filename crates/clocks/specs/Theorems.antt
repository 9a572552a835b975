-- What holds of regions, for any number of clocks.
use Rattle.std.specs.Prelude.{◌≡◌, ℕ, ◌+◌, ◌-◌, ◌*◌, ◌/◌, ◌%◌, ◌<◌, ◌≤◌, min, Bool, true, false, cond, ◌&&◌, List, map, length, Some, ◌==◌, nat_lt}
use Rattle.std.specs.List.{AllByRecursion}
use Rattle.clocks.specs.Regions.{Clock, Part, clock, part, spot, some, upto, top, classed, ranked, region_of, next, waits, later, finer, turns, has, Own, restarted, zeroed, remaining}

-- a finer scale shows the same region
abbrev pub Scales : Type 0
Scales = (k D : ℕ) (xs : List Clock) → 0 < k → 0 < D → region_of (k * D) (finer k xs) ≡ region_of D xs

-- at an even scale, with all readings even or all odd, a grain leads to the next region if a clock that is not past has no remainder
-- or lacks one grain to a unit, and else it leaves the region as it is
abbrev pub Grains : Type 0
Grains =
    (D b : ℕ) (xs : List Clock) → 0 < D → AllByRecursion (λ x. x.reading % 2 ≡ b) xs
    → (some (turns (2 * D)) xs ≡ true → next (region_of (2 * D) xs) ≡ Some (region_of (2 * D) (later 1 xs)))
    × (some (turns (2 * D)) xs ≡ false → region_of (2 * D) (later 1 xs) ≡ region_of (2 * D) xs)

-- the two halves of that, at any scale from 2 on: if no clock lacks one grain to a unit, and if none is without remainder
abbrev pub Leaving : Type 0
Leaving =
    (E : ℕ) (xs : List Clock) → 1 < E → has E xs (E - 1) ≡ false
    → (has E xs 0 ≡ true → next (region_of E xs) ≡ Some (region_of E (later 1 xs)))
    × (has E xs 0 ≡ false → region_of E (later 1 xs) ≡ region_of E xs)

abbrev pub Arriving : Type 0
Arriving =
    (E : ℕ) (xs : List Clock) → 1 < E → has E xs 0 ≡ false
    → (has E xs (E - 1) ≡ true → next (region_of E xs) ≡ Some (region_of E (later 1 xs)))
    × (has E xs (E - 1) ≡ false → region_of E (later 1 xs) ≡ region_of E xs)

-- every delay is a wait, and a longer one is no shorter a wait
abbrev pub Delays : Type 0
Delays =
    (D : ℕ) (xs : List Clock) → 0 < D
    → (n : ℕ → ℕ) × ((d e : ℕ) → d ≤ e → n d ≤ n e) × ((d : ℕ) → waits (n d) (region_of D xs) ≡ Some (region_of D (later d xs)))

-- every wait is a delay at twice the scale; a shorter delay is a shorter wait, and each shorter wait is a shorter delay
abbrev pub Waits : Type 0
Waits =
    (D : ℕ) (xs : List Clock) → 0 < D → (n : ℕ) (r : List Part) → waits n (region_of D xs) ≡ Some r
    → (d : ℕ)
    × (region_of (2 * D) (later d (finer 2 xs)) ≡ r)
    × ((e : ℕ) → e ≤ d → (j : ℕ) × (j ≤ n) × (waits j (region_of D xs) ≡ Some (region_of (2 * D) (later e (finer 2 xs)))))
    × ((j : ℕ) → j ≤ n → (e : ℕ) × (e ≤ d) × (waits j (region_of D xs) ≡ Some (region_of (2 * D) (later e (finer 2 xs)))))

-- a reading held one unit past its ceiling
abbrev pub held : ℕ → List Clock → List Clock
held D xs = map (λ x. clock x.ceiling (min x.reading ((x.ceiling + 1) * D))) xs

abbrev pub Holds : Type 0
Holds = (D : ℕ) (xs : List Clock) → 0 < D → region_of D (held D xs) ≡ region_of D xs

-- regions are own, and what is own is a region; so waits keep it
abbrev pub Owned : Type 0
Owned = (D : ℕ) (xs : List Clock) → 0 < D → Own (region_of D xs)

abbrev pub Shown : Type 0
Shown = (D : ℕ) (r : List Part) → top r < D → Own r → (xs : List Clock) × (region_of D xs ≡ r)

abbrev pub Kept : Type 0
Kept = (n : ℕ) (r after : List Part) → Own r → waits n r ≡ Some after → Own after

-- a region tells how a reading compares with k units, up to the ceiling
abbrev pub Guards : Type 0
Guards =
    (D k : ℕ) (f : ℕ → Bool) (x : Clock) → 0 < D → k ≤ x.ceiling
    → (nat_lt x.reading (k * D) ≡ nat_lt (classed f (spot D x)).whole k)
    × ((x.reading == k * D) ≡ ((classed f (spot D x)).whole == k && (classed f (spot D x)).rest == 0))

-- clocks that restart: their parts go to 0, and the classes close up
abbrev pub Restarts : Type 0
Restarts = (D : ℕ) (bs : List Bool) (xs : List Clock) → 0 < D → region_of D (restarted bs xs) ≡ ranked (zeroed bs (region_of D xs))

-- a region has so many next regions at the most, and so many classes at the most
abbrev pub Ends : Type 0
Ends = (n : ℕ) (r after : List Part) → Own r → waits n r ≡ Some after → n + remaining after ≤ remaining r

-- no region comes twice, so that a wait is known by its region
abbrev pub Once : Type 0
Once = (m n : ℕ) (r after : List Part) → Own r → waits m r ≡ Some after → waits n r ≡ Some after → m ≡ n

-- while a delay that is a wait of n regions goes by, every shorter delay is a wait of n regions at the most
abbrev pub Earlier : Type 0
Earlier =
    (D : ℕ) (xs : List Clock) → 0 < D → (d e n : ℕ) → d ≤ e → waits n (region_of D xs) ≡ Some (region_of D (later e xs))
    → (j : ℕ) × (j ≤ n) × (waits j (region_of D xs) ≡ Some (region_of D (later d xs)))

abbrev pub Few : Type 0
Few = (r : List Part) → Own r → top r ≤ length r

-- a region in the words of the rules: the class of a clock that is not past is 0 without a remainder, and else 1 plus the number
-- of different smaller remainders, but for 0, of clocks that are not past
abbrev pub smaller : ℕ → List Clock → ℕ → ℕ
smaller D xs r = upto (has D xs) (r - 1)

abbrev pub said : ℕ → List Clock → Clock → Part
said D xs x =
    cond (nat_lt (x.ceiling * D) x.reading)
    (part x.ceiling (x.ceiling + 1) 0)
    (part x.ceiling (x.reading / D) (cond (x.reading % D == 0) 0 (1 + smaller D xs (x.reading % D))))

abbrev pub Said : Type 0
Said = (D : ℕ) (xs : List Clock) → region_of D xs ≡ map (said D xs) xs

-- a region stays own when clocks restart
abbrev pub Fresh : Type 0
Fresh = (bs : List Bool) (r : List Part) → Own r → Own (ranked (zeroed bs r))
