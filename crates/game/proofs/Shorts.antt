-- No wait from an own position has more than 96 steps.
use Rattle.std.proofs.Common.{◌≡◌, ℕ, ◌+◌, ◌-◌, ◌*◌, ◌≤◌, Bool, true, false, cond, ◌&&◌, List, [], ◌∷◌, map, ap, ap₂, arith}
use Rattle.std.proofs.lemmas.Bool.{le-leb}
use Rattle.clocks.specs.Regions.{Part, resting, left, remaining}
use Rattle.clocks.proofs.Measures.{ends_stand}
use Rattle.regions.proofs.Owning.{own_from}
use Rattle.game.specs.Game.{limits, welcomed}
use Rattle.game.specs.Theorems.{Short}
use Rattle.game.proofs.Sounds.{sound_ceilings}
use Rattle.game.proofs.Outcomes.{owns_parts}

left_low : (p : Part) → left p ≤ 2 * p.ceiling + 1
left_low p = at (resting p)
  where
    at : (b : Bool) → 2 * (p.ceiling - p.whole) + cond b 1 0 ≤ 2 * p.ceiling + 1
    at true = omega arith
    at false = omega arith

-- two regions for each unit below the ceiling, and one for the ceiling
abbrev most : List ℕ → ℕ
most [] = 0
most (c ∷ cs) = 2 * c + 1 + most cs

remaining_low : (r : List Part) → remaining r ≤ most (map (λ p. p.ceiling) r)
remaining_low [] = omega arith
remaining_low (p ∷ r) = let a = left_low p in let b = remaining_low r in omega arith

pub short : Short
short g s l r c w n q e =
    let a = ends_stand n r q (own_from r (owns_parts g l r w).0) e in
    let b = remaining_low r in
    let d : most (map (λ p. p.ceiling) r) ≡ most (limits g) = ap most c in
    let f = sound_ceilings g s in
    let m : n ≤ 96 = omega arith in
    (m, λ v f. ap₂ ◌&&◌ w (ap₂ ◌&&◌ (le-leb n 96 m) (ap (welcomed g v l f) e)))
