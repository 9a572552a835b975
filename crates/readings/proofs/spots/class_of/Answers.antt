use Rattle.std.proofs.Common.{◌≡◌, false, ◌||◌, eqb, ap, ◌∙◌, rules}
use Rattle.readings.specs.Spotted.{part_at}
use Rattle.readings.proofs.Classes.{counted, four}
use Rattle.readings.proofs.spots.class_of.Goals as goal

pub returns : goal.returns
returns c =
    let s = c.args.spots in
    let v = c.args.rest in
    let ys : c.if-z-y.counts ≡ eqb s.z.rest s.y.rest || (eqb s.tick.rest s.y.rest || false) = search rules in
    let xs : c.if-z-x.counts ≡ eqb s.y.rest s.x.rest || (eqb s.z.rest s.x.rest || (eqb s.tick.rest s.x.rest || false)) = search rules in
    four (part_at 0 s.x) (part_at 0 s.y) (part_at 0 s.z) (part_at 1 s.tick) v
    c.counts-tick_counts.result c.counts-z_counts.result c.counts-y_counts.result c.counts-x_counts.result
    c.if-rest-eq0.false
    c.counts-tick_counts.ensures
    (search rules)
    (c.counts-y_counts.ensures ∙ ap (counted s.y.rest v) ys)
    (c.counts-x_counts.ensures ∙ ap (counted s.x.rest v) xs)
