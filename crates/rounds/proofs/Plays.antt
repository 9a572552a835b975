-- Each round played is an outcome, and each outcome can be played.
use Rattle.std.proofs.Common.{◌≡◌, ℕ, ◌+◌, ◌*◌, ◌<◌, ◌≤◌, min, Bool, true, false, cond, ltb, List, [], ◌∷◌, map, Some, None, Option, sym, refl, ap, ◌∙◌, subst, inl, inr, mul-le-mul_right, arith}
use mathlib.Core.List.{map-map}
use Rattle.std.specs.List.{AllByRecursion}
use Rattle.std.proofs.lemmas.Bool.{cases_order, cases_lt, and_parts, and_from, lt-ltb, le-ltb}
use Rattle.arena.specs.declared.moves.Side.{Side}
use Rattle.arena.specs.declared.moves.Side.TheVariants.{Us, Them}
use Rattle.clocks.specs.Regions.{Clock, Part, clock, spot, ranked, region_of, waits, later, finer}
use Rattle.clocks.proofs.Main.{scales_stand, earlier_stand, waits_stand}
use Rattle.clocks.proofs.Lists.{map_same}
use Rattle.clocks.proofs.Spots.{spot_past}
use Rattle.game.specs.Game.{Game, place, keeps, edge_at, result_of, may_take, welcome, outcomes, sound}
use Rattle.game.proofs.Sounds.{sound_ceilings}
use Rattle.game.proofs.Rises.{keeps_between}
use Rattle.game.proofs.Outcomes.{owns_parts, allowed}
use Rattle.rounds.specs.Rounds.{winner, of_side, round_by, round_of}
use Rattle.rounds.specs.Theorems.{ClocksOf, Played, Playable}
use Rattle.rounds.proofs.Members.{Member, ours_in, theirs_in, outcome_cases}
use Rattle.rounds.proofs.Ticks.{finer_clocks, round_is}

pub played : Played
played g s D l xs k e z c ours theirs f tie p = elim (cases_order ours theirs) [
  | inl i ↦
      let a : ltb ours theirs ≡ false = le-ltb ours theirs (omega arith) in
      let b : ltb theirs ours ≡ false = le-ltb theirs ours (omega arith) in
      rw (a, b) (tied (omega arith) tie)
  | inr o ↦ elim o [
    | inl i ↦ let a : ltb ours theirs ≡ true = lt-ltb ours theirs i in rw a us
    | inr i ↦
        let a : ltb ours theirs ≡ false = le-ltb ours theirs (omega arith) in
        let b : ltb theirs ours ≡ true = lt-ltb theirs ours i in
        rw (a, b) (them (omega arith))
  ]
]
  where
    us : Member (outcomes g (place l (region_of D xs)) k e) (round_by g D l xs Us ours e)
    us = subst (Member (outcomes g (place l (region_of D xs)) k e)) (sym (round_is g D l xs z c Us ours e))
        (ours_in g l (region_of D xs) k e (region_of D (later ours xs)) p.hits)

    them : theirs ≤ ours → Member (outcomes g (place l (region_of D xs)) k e) (round_by g D l xs Them theirs f)
    them n =
        let t = earlier_stand D xs z theirs ours k n p.hits in
        let a = and_parts (keeps g l (region_of D (later theirs xs))) (may_take g Them l (region_of D (later theirs xs)) f) p.answers in
        subst (Member (outcomes g (place l (region_of D xs)) k e)) (sym (round_is g D l xs z c Them theirs f))
        (theirs_in g l (region_of D xs) k e (region_of D (later theirs xs)) t.0 f t.1 t.2 a.1)

    tied : theirs ≤ ours → (s : Side) → Member (outcomes g (place l (region_of D xs)) k e) (round_by g D l xs s (of_side s ours theirs) (of_side s e f))
    tied n Us = us
    tied n Them = them n

-- their delay is carried out if it is no longer than ours and they win a tie
winner_them : (ours theirs : ℕ) → theirs ≤ ours → winner ours theirs Them ≡ Them
winner_them ours theirs n = rw (le-ltb ours theirs n) (either (ltb theirs ours))
  where
    either : (b : Bool) → cond b Them Them ≡ Them
    either true = refl
    either false = refl

winner_us : (d : ℕ) → winner d d Us ≡ Us
winner_us d = let a : ltb d d ≡ false = le-ltb d d (omega arith) in rw a

module _ (g : Game) (D l : ℕ) (xs : List Clock) where
  round_them : (ours theirs : ℕ) (e f : Option ℕ) → theirs ≤ ours → round_of g D l xs ours e theirs f Them ≡ round_by g D l xs Them theirs f
  round_them ours theirs e f n = ap (λ s. round_by g D l xs s (of_side s ours theirs) (of_side s e f)) (winner_them ours theirs n)

  round_us : (d : ℕ) (e f : Option ℕ) → round_of g D l xs d e d f Us ≡ round_by g D l xs Us d e
  round_us d e f = ap (λ s. round_by g D l xs s (of_side s d d) (of_side s e f)) (winner_us d)

-- later than 16 units all clocks are past
module _ (D : ℕ) (xs : List Clock) (h : AllByRecursion (λ x. x.ceiling ≤ 15) xs) where
  spot_capped : 0 < D → (d : ℕ) (x : Clock) → x.ceiling ≤ 15 → spot D (clock x.ceiling (x.reading + d)) ≡ spot D (clock x.ceiling (x.reading + min d (16 * D)))
  spot_capped z d x c = elim (cases_lt (16 * D) d) [
    | inl l ↦
        let a : x.ceiling * D ≤ 15 * D = mul-le-mul_right D c in
        spot_past D x.ceiling (x.reading + d) (omega arith) ∙ sym (spot_past D x.ceiling (x.reading + min d (16 * D)) (omega arith))
    | inr l ↦ let e : min d (16 * D) ≡ d = omega arith in ap (λ n. spot D (clock x.ceiling (x.reading + n))) (sym e)
  ]

  capped : 0 < D → (d : ℕ) → region_of D (later d xs) ≡ region_of D (later (min d (16 * D)) xs)
  capped z d = ap ranked
      (map-map (spot D) (λ x. clock x.ceiling (x.reading + d)) xs
      ∙ map_same (λ x. x.ceiling ≤ 15) (λ x. spot D (clock x.ceiling (x.reading + d))) (λ x. spot D (clock x.ceiling (x.reading + min d (16 * D)))) (spot_capped z d) xs h
      ∙ sym (map-map (spot D) (λ x. clock x.ceiling (x.reading + min d (16 * D))) xs))

-- every wait is a delay of at most 16 units, and each shorter wait a shorter delay
waits_capped : (D : ℕ) (xs : List Clock) → 0 < D → AllByRecursion (λ x. x.ceiling ≤ 15) (finer 2 xs) → (n : ℕ) (r : List Part) → waits n (region_of D xs) ≡ Some r
    → (d : ℕ) × (region_of (2 * D) (later d (finer 2 xs)) ≡ r) × (d ≤ 16 * (2 * D))
    × ((j : ℕ) → j ≤ n → (e : ℕ) × (e ≤ d) × (waits j (region_of D xs) ≡ Some (region_of (2 * D) (later e (finer 2 xs)))))
waits_capped D xs z h n r w =
    let t = waits_stand D xs z n r w in
    let y : 0 < 2 * D = omega arith in (
      min t.0 (16 * (2 * D)),
      sym (capped (2 * D) (finer 2 xs) h y t.0) ∙ t.1,
      omega arith,
      λ j l. let u = t.3 j l in (min u.0 (16 * (2 * D)), omega arith, u.2 ∙ ap Some (capped (2 * D) (finer 2 xs) h y u.0)),
    )

low_clocks : (g : Game) → sound g ≡ true → (xs : List Clock) → ClocksOf g xs → AllByRecursion (λ x. x.ceiling ≤ 15) xs
low_clocks g s xs c = back xs (subst (AllByRecursion (λ n. n ≤ 15)) (sym c) (sound_ceilings g s))
  where
    back : (xs : List Clock) → AllByRecursion (λ n. n ≤ 15) (map (λ x. x.ceiling) xs) → AllByRecursion (λ x. x.ceiling ≤ 15) xs
    back [] h = tt
    back (x ∷ xs) h = (h.0, back xs h.1)

pub playable : Playable
playable g s D l xs k e z c h i o n =
    let r : List Part = region_of D xs in
    let E : ℕ = 2 * D in
    let ys : List Clock = finer 2 xs in
    let y : 0 < 2 * D = omega arith in
    let d = finer_clocks g 2 xs c in
    let a = allowed g Us l r k e h in
    let t = waits_capped D xs z (low_clocks g s ys d) k a.reached a.waited in
    let hit : waits k (region_of E ys) ≡ Some (region_of E (later t.0 ys)) = ap (waits k) (scales_stand 2 D xs (omega arith) z) ∙ a.waited ∙ ap Some (sym t.1) in
    elim (outcome_cases g l r k e o (i, n)) [
      | inl u ↦
          let v : Some u.0 ≡ Some a.reached = sym u.1 ∙ a.waited in
          let w : u.0 ≡ region_of E (later t.0 ys) = (cc) in (
            t.0,
            t.0,
            None,
            Us,
            t.2,
            t.2,
            record { hits = hit; answers = and_from (keeps g l (region_of E (later t.0 ys))) true (ap (keeps g l) t.1 ∙ a.kept) refl },
            round_us g E l ys t.0 e None ∙ round_is g E l ys y d Us t.0 e ∙ ap (result_of g Us l (edge_at g e)) (sym w) ∙ sym u.2,
          )
      | inr u ↦
          let p = t.3 u.0 u.1 in
          let v : Some u.2 ≡ Some (region_of E (later p.0 ys)) = sym u.3 ∙ p.2 in
          let w : u.2 ≡ region_of E (later p.0 ys) = (cc) in
          let m : keeps g l u.2 ≡ true = keeps_between g l r u.2 a.reached u.0 k u.1 u.3 a.waited (owns_parts g l r a.own).2 a.kept in (
            t.0,
            p.0,
            u.4,
            Them,
            t.2,
            omega (arith, t.2, p.1),
            record {
              hits = hit;
              answers = ap (welcome g Them l u.4) (sym w) ∙ and_from (keeps g l u.2) (may_take g Them l u.2 u.4) m u.5;
            },
            round_them g E l ys t.0 p.0 e u.4 p.1 ∙ round_is g E l ys y d Them p.0 u.4 ∙ ap (result_of g Them l (edge_at g u.4)) (sym w) ∙ sym u.6,
          )
    ]
