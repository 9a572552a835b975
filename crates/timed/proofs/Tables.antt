-- A game's tables, and what a sound game has in them.
use Rattle.std.proofs.Common.{◌≡◌, ℕ, Bool, true, false, cond, ◌&&◌, ◌||◌, ltb, leb, length, Some, None, sym, refl, arith}
use Rattle.std.specs.List.{slice_get}
use Rattle.std.proofs.lemmas.Bool.{and_parts, and_from}
use Rattle.regions.specs.Types.{Ceilings}
use Rattle.game.specs.declared.bounds.Bounds.{Bounds}
use Rattle.game.specs.Types.{Zone}
use Rattle.game.specs.declared.parts.Location.{Location}
use Rattle.game.specs.declared.parts.Edge.{Edge}
use Rattle.game.specs.Intervals.{inhabited, bounded, everywhere, fitting}
use Rattle.game.specs.Game.{Game, suits, resetting, sound_location, sound}
use Rattle.game.proofs.Sounds.{every_all, nth_all, sound_made, sound_edge_lem}
use Rattle.timed.specs.Rows.{habitable}

-- a value that is there only under a test
pub some_when : {A : Type 0} (b : Bool) (x y : A) → Some x ≡ cond b (Some y) None → (b ≡ true) × (x ≡ y)
some_when true x y e = (refl, cc)
some_when false x y e = let z : ◌≡◌ {A = ℕ} 0 1 = cc in let w : ⊥ = omega arith in absurd w

pub none_when : {A : Type 0} (b : Bool) (y : A) → None ≡ cond b (Some y) None → b ≡ false
none_when true y e = let z : ◌≡◌ {A = ℕ} 0 1 = cc in let w : ⊥ = omega arith in absurd w
none_when false y e = refl

-- rows of a sound game
suited : (c : Ceilings) (z : Zone) → suits c z ≡ true → habitable z ≡ true
suited c z h =
    let a = and_parts (fitting c.x z.x) (fitting c.y z.y && fitting c.z z.z) h in
    let b = and_parts (fitting c.y z.y) (fitting c.z z.z) a.1 in
    and_from (inhabited z.x) (inhabited z.y && inhabited z.z) (row c.x z.x a.0)
    (and_from (inhabited z.y) (inhabited z.z) (row c.y z.y b.0) (row c.z z.z b.1))
  where
    row : (c : ℕ) (b : Bounds) → fitting c b ≡ true → inhabited b ≡ true
    row c b h = (and_parts (inhabited b) (bounded c b && (ltb 0 c || everywhere b)) h).0

module _ (g : Game) (s : sound g ≡ true) where
  pub invariant_checked : (i : ℕ) (l : Location) → Some l ≡ slice_get g.locations i → habitable l.invariant ≡ true
  invariant_checked i l e =
      let t = nth_all (λ l. sound_location g.ceilings l ≡ true) g.locations i l (every_all (sound_location g.ceilings) g.locations (sound_made g s).locations_sound) (sym e) in
      suited g.ceilings l.invariant (and_parts (leb l.priority 5) (suits g.ceilings l.invariant) t).1

  pub guard_checked : (i : ℕ) (e : Edge) → Some e ≡ slice_get g.edges i → habitable e.guard ≡ true
  guard_checked i e h =
      let n : ℕ = length g.locations in
      let a = and_parts (ltb e.from n) (ltb e.to n && (resetting g.ceilings e.resets && suits g.ceilings e.guard)) (sound_edge_lem g s i e (sym h)) in
      let b = and_parts (ltb e.to n) (resetting g.ceilings e.resets && suits g.ceilings e.guard) a.1 in
      suited g.ceilings e.guard (and_parts (resetting g.ceilings e.resets) (suits g.ceilings e.guard) b.1).1
