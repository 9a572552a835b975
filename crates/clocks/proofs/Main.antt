-- The theorems of specs/Theorems.antt.
use Rattle.std.proofs.Common.{◌≡◌, ℕ, zero, suc, ◌+◌, ◌*◌, ◌<◌, ◌≤◌, min, List, Some, None, Option, sym, refl, ap, ◌∙◌, subst, inl, inr, arith}
use mathlib.Core.List.{map-map}
use Rattle.std.proofs.lemmas.Bool.{cases_lt, cases_eq}
use Rattle.clocks.specs.Regions.{Clock, Part, clock, spot, top, ranked, region_of, restarted, zeroed, Own, onward, waits, later, finer, passed}
use Rattle.clocks.specs.Theorems.{Scales, Grains, Delays, Waits, Earlier, Holds, Owned, Shown, Kept, Fresh}
use Rattle.clocks.proofs.Lists.{map_ext}
use Rattle.clocks.proofs.Spots.{scales, spot_held}
use Rattle.clocks.proofs.Walks.{grain, walk, passed_mono, reach, finer_even}
use Rattle.clocks.proofs.Measures.{once_stand}
use Rattle.clocks.proofs.Resets.{restarts_stand}
use Rattle.clocks.proofs.Owns.{owned, readings, is_region, keeps}

pub scales_stand : Scales
scales_stand = scales

pub grains_stand : Grains
grains_stand = grain

finer_later : (d : ℕ) (xs : List Clock) → later (2 * d) (finer 2 xs) ≡ finer 2 (later d xs)
finer_later d xs =
    map-map (λ x. clock x.ceiling (x.reading + 2 * d)) (λ x. clock x.ceiling (2 * x.reading)) xs
    ∙ map_ext (λ x. clock x.ceiling (2 * x.reading + 2 * d)) (λ x. clock x.ceiling (2 * (x.reading + d))) (λ x. ap (clock x.ceiling) (omega arith)) xs
    ∙ sym (map-map (λ x. clock x.ceiling (2 * x.reading)) (λ x. clock x.ceiling (x.reading + d)) xs)

-- the walk, from the region at scale D
module _ (D : ℕ) (xs : List Clock) (z : 0 < D) where
  walked : (m : ℕ) → waits (passed (2 * D) (finer 2 xs) m) (region_of D xs) ≡ Some (region_of (2 * D) (later m (finer 2 xs)))
  walked m = ap (waits (passed (2 * D) (finer 2 xs) m)) (sym (scales 2 D xs (omega arith) z)) ∙ walk D 0 (finer 2 xs) z (finer_even xs) m

  mono : (m n : ℕ) → m ≤ n → passed (2 * D) (finer 2 xs) m ≤ passed (2 * D) (finer 2 xs) n
  mono = passed_mono D 0 (finer 2 xs) z (finer_even xs)

  reached : (n : ℕ) (r : List Part) → waits n (region_of D xs) ≡ Some r → (m : ℕ) × (passed (2 * D) (finer 2 xs) m ≡ n)
  reached n r e = reach D 0 (finer 2 xs) z (finer_even xs) n r (ap (waits n) (scales 2 D xs (omega arith) z) ∙ e)

-- an earlier wait leads somewhere too
earlier : (r : List Part) (n j : ℕ) (after : List Part) → j ≤ n → waits n r ≡ Some after → (q : List Part) × (waits j r ≡ Some q)
earlier r zero j after l e = let i : j ≡ 0 = omega arith in (r, ap (λ k. waits k r) i)
earlier r (suc n) j after l e = elim (cases_eq j (suc n)) [
  | inl i ↦ (after, ap (λ k. waits k r) i ∙ e)
  | inr i ↦ let t = before (waits n r) refl e in earlier r n j t.0 (omega arith) t.1
]
  where
    before : (o : Option (List Part)) → waits n r ≡ o → onward o ≡ Some after → (q : List Part) × (waits n r ≡ Some q)
    before None w e = let i : ◌≡◌ {A = ℕ} 0 1 = cc in let w : ⊥ = omega arith in absurd w
    before (Some q) w e = (q, w)

pub delays_stand : Delays
delays_stand D xs z = (
  λ d. passed (2 * D) (finer 2 xs) (2 * d),
  λ d e l. mono D xs z (2 * d) (2 * e) (omega arith),
  λ d. walked D xs z (2 * d) ∙ ap Some (ap (region_of (2 * D)) (finer_later d xs) ∙ scales 2 D (later d xs) (omega arith) z),
)

pub earlier_stand : Earlier
earlier_stand D xs z d e n l w =
    let t = delays_stand D xs z in
    let i = once_stand (t.0 e) n (region_of D xs) (region_of D (later e xs)) (owned D xs z) (t.2 e) w in
    (t.0 d, omega (arith, t.1 d e l), t.2 d)

pub waits_stand : Waits
waits_stand D xs z n r w =
    let t = reached D xs z n r w in
    let d : ℕ = t.0 in
    let s : Some (region_of (2 * D) (later d (finer 2 xs))) ≡ Some r = sym (walked D xs z d) ∙ ap (λ k. waits k (region_of D xs)) t.1 ∙ w in (
      d,
      cc,
      λ e l. (passed (2 * D) (finer 2 xs) e, omega (arith, mono D xs z e d l, t.1), walked D xs z e),
      λ j l. back d t.1 j l (earlier (region_of D xs) n j r l w),
    )
  where
    back : (d : ℕ) → passed (2 * D) (finer 2 xs) d ≡ n → (j : ℕ) → j ≤ n → (q : List Part) × (waits j (region_of D xs) ≡ Some q)
        → (e : ℕ) × (e ≤ d) × (waits j (region_of D xs) ≡ Some (region_of (2 * D) (later e (finer 2 xs))))
    back d i j l q =
        let u = reached D xs z j q.0 q.1 in
        elim (cases_lt d u.0) [
          | inl k ↦
              let m = mono D xs z d u.0 (omega arith) in
              let f : j ≡ passed (2 * D) (finer 2 xs) d = omega (arith, u.1) in
              (d, omega arith, ap (λ k. waits k (region_of D xs)) f ∙ walked D xs z d)
          | inr k ↦ (u.0, k, ap (λ k. waits k (region_of D xs)) (sym u.1) ∙ walked D xs z u.0)
        ]

pub holds_stand : Holds
holds_stand D xs z =
    ap ranked
    (map-map (spot D) (λ x. clock x.ceiling (min x.reading ((x.ceiling + 1) * D))) xs
    ∙ map_ext (λ x. spot D (clock x.ceiling (min x.reading ((x.ceiling + 1) * D)))) (spot D) (λ x. spot_held D x z) xs)

pub owned_stand : Owned
owned_stand = owned

pub shown_stand : Shown
shown_stand D r l h = (readings D r, is_region D r l h)

pub kept_stand : Kept
kept_stand = keeps

pub fresh_stand : Fresh
fresh_stand bs r h =
    let D : ℕ = suc (top r) in
    let e : region_of D (readings D r) ≡ r = is_region D r (omega arith) h in
    subst Own (restarts_stand D bs (readings D r) (omega arith) ∙ ap (λ q. ranked (zeroed bs q)) e) (owned D (restarted bs (readings D r)) (omega arith))
