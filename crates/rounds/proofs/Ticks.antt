-- A round on readings does to their region what a move does.
use Rattle.std.proofs.Common.{◌≡◌, ℕ, ◌+◌, ◌*◌, ◌<◌, min, Bool, ltb, leb, List, [], ◌∷◌, ◌++◌, map, Option, sym, ap, ◌∙◌, arith}
use mathlib.Core.List.{map-map}
use Rattle.std.proofs.lemmas.Bool.Decides.{nat_tests}
use Rattle.arena.specs.declared.moves.Side.{Side}
use Rattle.clocks.specs.Regions.{Clock, clock, spot, seen, classed, ranked, region_of, later, finer, zeroed}
use Rattle.clocks.proofs.Main.{holds_stand}
use Rattle.clocks.proofs.Resets.{guards_stand, restarts_stand}
use Rattle.game.specs.Game.{Game, last_whole, ticks, carried, resets_of, edge_at, result_of}
use Rattle.rounds.specs.Rounds.{last_reading, ticked, delayed, readings_after, round_by}
use Rattle.rounds.specs.Theorems.{ClocksOf}

-- the tick clock has reached a unit in the readings as in the region
tick_one : (D : ℕ) (f : ℕ → Bool) (x : Clock) → 0 < D → x.ceiling ≡ 1 → ltb 0 (classed f (spot D x)).whole ≡ leb D x.reading
tick_one D f x z c = let t = (guards_stand D 1 f x z (omega arith)).0 in flips x.reading (classed f (spot D x)).whole t
  where
    flips : (n w : ℕ) → ltb n (1 * D) ≡ ltb w 1 → ltb 0 w ≡ leb D n
    flips n w e = grind (arith, nat_tests)

tick_last : (D : ℕ) (f : ℕ → Bool) (cs : List ℕ) (xs : List Clock) → 0 < D → map (λ x. x.ceiling) xs ≡ cs ++ 1 ∷ []
    → ltb 0 (last_whole (map (λ x. classed f (spot D x)) xs)) ≡ leb D (last_reading xs)
tick_last D f [] [] z e = let w : ◌≡◌ {A = ℕ} 0 1 = cc in let n : ⊥ = omega arith in absurd n
tick_last D f (c ∷ cs) [] z e = let w : ◌≡◌ {A = ℕ} 0 1 = cc in let n : ⊥ = omega arith in absurd n
tick_last D f [] (x ∷ []) z e = tick_one D f x z (cc)
tick_last D f (c ∷ []) (x ∷ []) z e = let w : ◌≡◌ {A = ℕ} 0 1 = cc in let n : ⊥ = omega arith in absurd n
tick_last D f (c ∷ b ∷ cs) (x ∷ []) z e = let w : ◌≡◌ {A = ℕ} 0 1 = cc in let n : ⊥ = omega arith in absurd n
tick_last D f [] (x ∷ y ∷ xs) z e = let w : ◌≡◌ {A = ℕ} 0 1 = cc in let n : ⊥ = omega arith in absurd n
tick_last D f (c ∷ cs) (x ∷ y ∷ xs) z e = tick_last D f cs (y ∷ xs) z (cc)

module _ (g : Game) where
  later_clocks : (d : ℕ) (xs : List Clock) → ClocksOf g xs → ClocksOf g (later d xs)
  later_clocks d xs c = map-map (λ x. x.ceiling) (λ x. clock x.ceiling (x.reading + d)) xs ∙ c

  pub finer_clocks : (k : ℕ) (xs : List Clock) → ClocksOf g xs → ClocksOf g (finer k xs)
  finer_clocks k xs c = map-map (λ x. x.ceiling) (λ x. clock x.ceiling (k * x.reading)) xs ∙ c

  pub tick_same : (D : ℕ) (xs : List Clock) → 0 < D → ClocksOf g xs → ticks (region_of D xs) ≡ ticked D xs
  tick_same D xs z c =
      ap (λ r. ltb 0 (last_whole r)) (map-map (classed (seen (map (spot D) xs))) (spot D) xs)
      ∙ tick_last D (seen (map (spot D) xs)) (g.ceilings.x ∷ g.ceilings.y ∷ g.ceilings.z ∷ []) xs z c

  module _ (D l : ℕ) (xs : List Clock) (z : 0 < D) (c : ClocksOf g xs) where
    pub delayed_clocks : (d : ℕ) → ClocksOf g (delayed D xs d)
    delayed_clocks d = map-map (λ x. x.ceiling) (λ x. clock x.ceiling (min x.reading ((x.ceiling + 1) * D))) (later d xs) ∙ later_clocks d xs c

    pub tick_delayed : (d : ℕ) → ticks (region_of D (later d xs)) ≡ ticked D (delayed D xs d)
    tick_delayed d = ap ticks (sym (holds_stand D (later d xs) z)) ∙ tick_same D (delayed D xs d) z (delayed_clocks d)

    region_after : (d : ℕ) (e : Option ℕ) → region_of D (readings_after g D l xs d e) ≡ carried (resets_of (edge_at g e)) (region_of D (later d xs))
    region_after d e =
        restarts_stand D (resets_of (edge_at g e) ++ ticked D (delayed D xs d) ∷ []) (delayed D xs d) z
        ∙ ap (λ q. ranked (zeroed (resets_of (edge_at g e) ++ ticked D (delayed D xs d) ∷ []) q)) (holds_stand D (later d xs) z)
        ∙ ap (λ b. ranked (zeroed (resets_of (edge_at g e) ++ b ∷ []) (region_of D (later d xs)))) (sym (tick_delayed d))

    pub round_is : (s : Side) (d : ℕ) (e : Option ℕ) → round_by g D l xs s d e ≡ result_of g s l (edge_at g e) (region_of D (later d xs))
    round_is s d e = let t = tick_delayed d in let r = region_after d e in cc
