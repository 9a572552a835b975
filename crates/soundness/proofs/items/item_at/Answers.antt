use Rattle.std.proofs.Common.{◌∙◌}
use Rattle.soundness.proofs.Lists.{item_nth}
use Rattle.soundness.proofs.items.item_at.Goals as goal

pub returns : goal.returns
returns g c = c.copied.ensures ∙ item_nth c.args.items.now c.args.number c.get.result c.get.ensures.lookup
