-- The timed game keeps the laws of an arena.
use Rattle.std.proofs.Common.{◌≡◌, ℕ, zero, suc, ◌<◌, ◌≤◌, Bool, true, false, cond, ◌&&◌, eqb, leb, List, [], ◌∷◌, map, length, Decides, refl, ap, ◌∙◌, subst, ap₂, inl, inr, arith}
use lib.ListN.{length-map}
use Rattle.std.specs.List.{slice_get, list_all}
use Rattle.std.proofs.ByRecursion.{All-map, All-weaker}
use Rattle.std.proofs.lemmas.Option.{slice_get_past}
use Rattle.std.proofs.lemmas.Bool.{cases_Bool, cases_lt, and_parts, leb-true}
use Rattle.std.proofs.lemmas.Bool.Decides.{nat_tests, Decides-eqb, Decides-and, Decides-like}
use Rattle.arena.specs.declared.moves.Side.TheVariants.{Us}
use Rattle.clocks.specs.Regions.{Part}
use Rattle.regions.specs.declared.region.ClockRegion.{ClockRegion}
use Rattle.regions.specs.Types.{Region, Ceilings}
use Rattle.regions.specs.Code as code
use Rattle.regions.specs.Code.{parts}
use Rattle.game.specs.declared.parts.Location.{Location}
use Rattle.game.specs.declared.parts.TimedPosition.{TimedPosition}
use Rattle.game.specs.Game.{Game, Place, place, invariant_of, limits, keeps, owns, start, outcomes, suits, sound_location}
use Rattle.game.specs.Timed.{place_of, region_from, position_of, in_code, same_clock, same_position, priority_of, Lawfully}
use Rattle.game.proofs.Sounds.{sound_parts, sound_made}
use Rattle.game.proofs.Outcomes.{owns_parts, allowed, outcomes_few}
use Rattle.game.proofs.Laws.{outcomes_own}

-- from a place to a position and back
parts_back : (c : Ceilings) (r : List Part) → map (λ p. p.ceiling) r ≡ code.limits c → parts c (region_from r) ≡ r
parts_back c [] e = let w : ◌≡◌ {A = ℕ} 0 1 = cc in let n : ⊥ = omega arith in absurd n
parts_back c (x ∷ []) e = let w : ◌≡◌ {A = ℕ} 0 1 = cc in let n : ⊥ = omega arith in absurd n
parts_back c (x ∷ y ∷ []) e = let w : ◌≡◌ {A = ℕ} 0 1 = cc in let n : ⊥ = omega arith in absurd n
parts_back c (x ∷ y ∷ z ∷ []) e = let w : ◌≡◌ {A = ℕ} 0 1 = cc in let n : ⊥ = omega arith in absurd n
parts_back c (x ∷ y ∷ z ∷ t ∷ []) e =
    let i : c.x ≡ x.ceiling = cc in
    let j : c.y ≡ y.ceiling = cc in
    let k : c.z ≡ z.ceiling = cc in
    let l : 1 ≡ t.ceiling = cc in
    rw (i, j, k, l)
parts_back c (x ∷ y ∷ z ∷ t ∷ s ∷ r) e = let w : ◌≡◌ {A = ℕ} 0 1 = cc in let n : ⊥ = omega arith in absurd n

pub place_back : (g : Game) (p : Place) → map (λ q. q.ceiling) p.region ≡ limits g → place_of g (position_of p) ≡ p
place_back g p e = ap (place p.location) (parts_back g.ceilings p.region e)

-- the test of positions
abbrev stood : ℕ → ℕ → ClockRegion
stood w c = record { whole = w; class = c }

abbrev standing : ClockRegion → ClockRegion → ClockRegion → ClockRegion → Region
standing x y z t = record { x = x; y = y; z = z; tick = t }

abbrev position : ℕ → Region → TimedPosition
position l r = record { location = l; region = r }

same_clock_lem : (a b : ClockRegion) → Decides (same_clock a b) (a ≡ b)
same_clock_lem a b =
    Decides-like (same_clock a b) (λ h. ap₂ stood h.0 h.1) (λ e. (ap (λ m. m.whole) e, ap (λ m. m.class) e))
    (Decides-and (eqb a.whole b.whole) (eqb a.class b.class) (Decides-eqb a.whole b.whole) (Decides-eqb a.class b.class))

pub same_position_lem : (p q : TimedPosition) → Decides (same_position p q) (p ≡ q)
same_position_lem p q = (to, from)
  where
    to : same_position p q ≡ true → p ≡ q
    to h =
        let t : Bool = same_clock p.region.tick q.region.tick in
        let z : Bool = same_clock p.region.z q.region.z in
        let y : Bool = same_clock p.region.y q.region.y in
        let x : Bool = same_clock p.region.x q.region.x in
        let a = and_parts (eqb p.location q.location) (x && (y && (z && t))) h in
        let b = and_parts x (y && (z && t)) a.1 in
        let c = and_parts y (z && t) b.1 in
        let d = and_parts z t c.1 in
        let i : p.location ≡ q.location = (Decides-eqb p.location q.location).0 a.0 in
        let j = (same_clock_lem p.region.x q.region.x).0 b.0 in
        let k = (same_clock_lem p.region.y q.region.y).0 c.0 in
        let l = (same_clock_lem p.region.z q.region.z).0 d.0 in
        let m = (same_clock_lem p.region.tick q.region.tick).0 d.1 in
        ap₂ position i
        (ap₂ (λ x y. standing x y p.region.z p.region.tick) j k ∙ ap₂ (standing q.region.x q.region.y) l m)

    from : p ≡ q → same_position p q ≡ true
    from e = subst (λ q. same_position p q ≡ true) e (grind (arith, nat_tests))

-- an own position's location is there
located : (g : Game) (l : ℕ) (r : List Part) → owns g (place l r) ≡ true → l < length g.locations
located g l r h = elim (cases_lt l (length g.locations)) [
  | inl k ↦ k
  | inr k ↦
      let i : keeps g l r ≡ false = ap (λ o. invariant_of o r) (slice_get_past g.locations l k) in
      let j = (owns_parts g l r h).2 in
      let z : ◌≡◌ {A = ℕ} 0 1 = cc in omega arith
]

priorities : (c : Ceilings) (ls : List Location) (i : ℕ) → list_all (sound_location c) ls ≡ true → priority_of (slice_get ls i) ≤ 5
priorities c [] i h = omega arith
priorities c (l ∷ ls) i h = let t = and_parts (sound_location c l) (list_all (sound_location c) ls) h in at i (and_parts (leb l.priority 5) (suits c l.invariant) t.0).0 (λ i. priorities c ls i t.1)
  where
    at : (i : ℕ) → leb l.priority 5 ≡ true → ((i : ℕ) → priority_of (slice_get ls i) ≤ 5) → priority_of (slice_get (l ∷ ls) i) ≤ 5
    at zero h k = leb-true l.priority 5 h
    at (suc i) h k = k i

pub lawfully : Lawfully
lawfully g s =
    record {
      decides = same_position_lem;
      starts = ap (owns g) (place_back g (start g) refl) ∙ (sound_parts g s).1;
      stands = λ p v h. (allowed g Us p.location (parts g.ceilings p.region) v.steps v.edge h).own;
      waits = λ p v h. (allowed g Us p.location (parts g.ceilings p.region) v.steps v.edge h).steps;
      counts = λ p v h.
          let t = outcomes_few g p.location (parts g.ceilings p.region) v.steps v.edge (sound_made g s).few_edges h in
          let n = length-map (outcomes g (place_of g p) v.steps v.edge) in_code in
          rw h (omega (arith, t.0), omega (arith, t.1));
      leads = λ p v h. rw h
          (All-map (λ o. owns g (place_of g o.position) ≡ true) in_code (outcomes g (place_of g p) v.steps v.edge)
          (All-weaker (λ o. (owns g o.position ≡ true) × (map (λ p. p.ceiling) o.position.region ≡ limits g)) (λ o. owns g (place_of g (position_of o.position)) ≡ true)
          (λ o t. ap (owns g) (place_back g o.position t.1) ∙ t.0) (outcomes g (place_of g p) v.steps v.edge)
          (outcomes_own g p.location (parts g.ceilings p.region) v.steps v.edge refl h)));
      idle = λ p v h. rw h;
      ranges = λ p. (priority p, label p);
      strange = λ p h. (rw h, rw h);
    }
  where
    priority : (p : TimedPosition) → cond (owns g (place_of g p)) (priority_of (slice_get g.locations p.location)) 0 ≤ 5
    priority p = elim (cases_Bool (owns g (place_of g p))) [
      | inl t ↦ rw t (priorities g.ceilings g.locations p.location (sound_made g s).locations_sound)
      | inr t ↦ rw t (omega arith)
    ]

    label : (p : TimedPosition) → cond (owns g (place_of g p)) p.location 0 ≤ 31
    label p = elim (cases_Bool (owns g (place_of g p))) [
      | inl t ↦ let k = located g p.location (parts g.ceilings p.region) t in let m = (sound_made g s).few_locations in rw t (omega arith)
      | inr t ↦ rw t (omega arith)
    ]
