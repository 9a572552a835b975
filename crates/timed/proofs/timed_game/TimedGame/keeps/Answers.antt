use Rattle.std.proofs.Common.{ap, ◌∙◌}
use Rattle.std.specs.List.{slice_get}
use Rattle.timed.specs.Code.{game_of}
use Rattle.timed.proofs.Tables.{invariant_checked}
use Rattle.timed.proofs.timed_game.TimedGame.keeps.Goals as goal

pub is_met-requires : goal.is_met-requires
is_met-requires c =
    invariant_checked (game_of c.args.self.now) c.args.self.now.ok c.args.place.location c.in-Some.found
    (c.in-Some.ensures ∙ ap (λ xs. slice_get xs c.args.place.location) c.as_slice.ensures.value)
