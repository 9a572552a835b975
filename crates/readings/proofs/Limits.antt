-- The limits that readings keep.
use Rattle.std.proofs.Common.{◌≡◌, ℕ, ◌+◌, ◌*◌, ◌^◌, ◌<◌, ◌≤◌, true, ◌&&◌, ltb, leb, List, [], ◌∷◌, refl, ap, ◌∙◌, mul-le-mul_right, mul-le-mul_left, mul-pos, mul_left_comm, arith}
use Rattle.std.proofs.lemmas.Bool.{and_parts, and_from, leb-true, le-leb, lt-ltb}
use Rattle.std.proofs.lemmas.Bool.Decides.{nat_tests}
use Rattle.std.specs.List.{list_all}
use Rattle.clocks.specs.Regions.{Clock, finer}
use Rattle.regions.specs.Types.{Ceilings}
use Rattle.regions.specs.Code.{ceiled}
use Rattle.readings.specs.Types.{Grains}
use Rattle.readings.specs.declared.scaled.Readings.{Readings}
use Rattle.readings.specs.Grains.{clocks_at, is_held, is_scale, readable}
use Rattle.readings.specs.View.{clocks_of}

-- each clock with its limits
pub record Limits (c : Ceilings) (D : ℕ) (g : Grains) : Type 0 where
  pub x_low : c.x ≤ 15
  pub y_low : c.y ≤ 15
  pub z_low : c.z ≤ 15
  pub some : 0 < D
  pub fine : D ≤ 1000000
  pub x_held : g.x ≤ (c.x + 1) * D
  pub y_held : g.y ≤ (c.y + 1) * D
  pub z_held : g.z ≤ (c.z + 1) * D
  pub tick_held : g.tick ≤ 2 * D

limits_from : (c : Ceilings) (D : ℕ) (g : Grains) → readable c D g ≡ true → Limits c D g
limits_from c D g h =
    record {
      x_low = grind (arith, nat_tests);
      y_low = grind (arith, nat_tests);
      z_low = grind (arith, nat_tests);
      some = grind (arith, nat_tests);
      fine = grind (arith, nat_tests);
      x_held = grind (arith, nat_tests);
      y_held = grind (arith, nat_tests);
      z_held = grind (arith, nat_tests);
      tick_held = grind (arith, nat_tests);
    }

pub limits : (r : Readings) → Limits r.ceilings r.scale r.grains
limits r = limits_from r.ceilings r.scale r.grains r.ok

-- a ceiling, and one unit above it, in grains
pub units_fit : (c D : ℕ) → c ≤ 15 → D ≤ 1000000 → (c * D ≤ 15000000) × ((c + 1) * D ≤ 16000000)
units_fit c D low fine =
    let a : c * D ≤ 15 * D = mul-le-mul_right D low in
    let k : c + 1 ≤ 16 = omega arith in
    let b : (c + 1) * D ≤ 16 * D = mul-le-mul_right D k in
    (omega arith, omega arith)

-- at a scale that is finer by k
finer_held : (k c D x : ℕ) → x ≤ (c + 1) * D → k * x ≤ (c + 1) * (k * D)
finer_held k c D x h = let a : k * x ≤ k * ((c + 1) * D) = mul-le-mul_left k h in omega (arith, mul_left_comm k (c + 1) D)

finer_every : (k D : ℕ) (xs : List Clock) → list_all (is_held D) xs ≡ true → list_all (is_held (k * D)) (finer k xs) ≡ true
finer_every k D [] h = refl
finer_every k D (x ∷ xs) h =
    let t = and_parts (is_held D x) (list_all (is_held D) xs) h in
    let one = finer_held k x.ceiling D x.reading (leb-true x.reading ((x.ceiling + 1) * D) t.0) in
    and_from _ (list_all (is_held (k * D)) (finer k xs)) (le-leb (k * x.reading) ((x.ceiling + 1) * (k * D)) one) (finer_every k D xs t.1)

module _ (k : ℕ) (r : Readings) where
  pub scale_fits : k ≤ 1000 → k * r.scale < 2 ^ 32
  scale_fits h = let l = limits r in let a : k * r.scale ≤ 1000 * r.scale = mul-le-mul_right r.scale h in omega arith

  module _ (fine : k * r.scale ≤ 1000000) where
    pub finer_fits : (c x : ℕ) → c ≤ 15 → x ≤ (c + 1) * r.scale → k * x < 2 ^ 32
    finer_fits c x low h = let a = finer_held k c r.scale x h in omega (arith, units_fit c (k * r.scale) low fine)

    pub finer_readable : (g : Grains) → 0 < k → clocks_at r.ceilings g ≡ finer k (clocks_of r) → readable r.ceilings (k * r.scale) g ≡ true
    finer_readable g some e =
        let D = r.scale in
        let l = limits r in
        let t = and_parts (ceiled r.ceilings) (is_scale D && list_all (is_held D) (clocks_of r)) r.ok in
        let u = and_parts (is_scale D) (list_all (is_held D) (clocks_of r)) t.1 in
        let v : is_scale (k * D) ≡ true = and_from (ltb 0 (k * D)) (leb (k * D) 1000000) (lt-ltb 0 (k * D) (mul-pos some l.some)) (le-leb (k * D) 1000000 fine) in
        let w : list_all (is_held (k * D)) (clocks_at r.ceilings g) ≡ true = ap (list_all (is_held (k * D))) e ∙ finer_every k D (clocks_of r) u.1 in
        and_from (ceiled r.ceilings) (is_scale (k * D) && list_all (is_held (k * D)) (clocks_at r.ceilings g)) t.0
        (and_from (is_scale (k * D)) (list_all (is_held (k * D)) (clocks_at r.ceilings g)) v w)
