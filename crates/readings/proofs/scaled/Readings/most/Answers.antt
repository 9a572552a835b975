use Rattle.std.proofs.Common.{rules, arith}
use Rattle.readings.proofs.Limits.{limits, units_fit}
use Rattle.readings.proofs.scaled.Readings.most.Goals as goal

pub map-requires : goal.map-requires
map-requires c =
    let r = c.args.self in
    let l = limits r in
    record {
      x = let h = units_fit r.ceilings.x r.scale l.x_low l.fine in search rules;
      y = let h = units_fit r.ceilings.y r.scale l.y_low l.fine in search rules;
      z = let h = units_fit r.ceilings.z r.scale l.z_low l.fine in search rules;
      tick = let h = units_fit 1 r.scale (omega arith) l.fine in search rules;
    }
