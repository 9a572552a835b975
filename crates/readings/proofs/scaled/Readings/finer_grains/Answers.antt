use Rattle.std.proofs.Common.{rules, arith}
use Rattle.readings.proofs.Limits.{limits, finer_fits}
use Rattle.readings.proofs.scaled.Readings.finer_grains.Goals as goal

pub map-requires : goal.map-requires
map-requires c =
    let r = c.args.self in
    let l = limits r in
    let fits = finer_fits c.args.factor r c.requires in
    record {
      x = let h = fits r.ceilings.x r.grains.x l.x_low l.x_held in search rules;
      y = let h = fits r.ceilings.y r.grains.y l.y_low l.y_held in search rules;
      z = let h = fits r.ceilings.z r.grains.z l.z_low l.z_held in search rules;
      tick = let h = fits 1 r.grains.tick (omega arith) l.tick_held in search rules;
    }
