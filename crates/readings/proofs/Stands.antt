-- Clocks in the region of their readings.
use Rattle.std.proofs.Common.{◌≡◌, ℕ, true, false, is_some, None, sym, ap, ◌∙◌, subst, arith}
use Rattle.std.proofs.lemmas.Bool.{and_parts, and_from}
use Rattle.clocks.specs.Regions.{Own}
use Rattle.clocks.proofs.Main.{owned_stand}
use Rattle.regions.specs.Types.{Region}
use Rattle.regions.specs.declared.standing.Clocks.{Clocks}
use Rattle.regions.specs.Code.{parts, ceiled, is_own, proper}
use Rattle.regions.specs.Standing.{standing}
use Rattle.regions.proofs.Owning.{own_to}
use Rattle.readings.specs.declared.scaled.Readings.{Readings}
use Rattle.readings.specs.View.{clocks_of, view, region_in}
use Rattle.readings.proofs.Limits.{limits}

module _ (r : Readings) (q : Region) (e : parts r.ceilings q ≡ region_in (view r)) where
  read_proper : proper r.ceilings q ≡ true
  read_proper =
      let own : Own (parts r.ceilings q) = subst Own (sym e) (owned_stand r.scale (clocks_of r) (limits r).some) in
      and_from (ceiled r.ceilings) (is_own (parts r.ceilings q)) (and_parts (ceiled r.ceilings) _ r.ok).0 (own_to (parts r.ceilings q) own)

  -- so there are clocks that stand in it
  pub read_made : is_some {T = Clocks} None ≡ proper r.ceilings q → ⊥
  read_made i = let f : false ≡ true = i ∙ read_proper in let z : ◌≡◌ {A = ℕ} 0 1 = cc in omega arith

  pub read_stands : (k : Clocks) → (k.ceilings ≡ r.ceilings) × (k.region ≡ q) → standing k ≡ region_in (view r)
  read_stands k s = ap (λ c. parts c k.region) s.0 ∙ (ap (parts r.ceilings) s.1 ∙ e)
