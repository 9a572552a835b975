use Rattle.std.proofs.Common.{◌&&◌, sym, ap, ◌∙◌}
use Rattle.game.specs.Game.{game}
use Rattle.game.specs.Start.{starts_at_zero}
use Rattle.game.proofs.Starts.{starts}
use Rattle.soundness.proofs.tables.is_sound.Goals as goal

pub returns-then-is_well_made : goal.returns-then-is_well_made
returns-then-is_well_made c =
    c.starts_at_zero.ensures
    ∙ ap (λ b. b && starts_at_zero c.args.locations.now) c.if-is_well_made.ensures
    ∙ sym (starts (game c.args.c c.args.locations.now c.args.edges.now))
