use Rattle.std.proofs.Common.{ap, ◌∙◌}
use Rattle.std.specs.List.{slice_get}
use Rattle.regions.specs.Standing.{standing}
use Rattle.timed.specs.Code.{game_of}
use Rattle.timed.proofs.Tables.{guard_checked}
use Rattle.timed.proofs.Answering.{taken_plainly}
use Rattle.timed.proofs.timed_game.TimedGame.take.Goals as goal

pub returns-in_default : goal.returns-in_default
returns-in_default c =
    taken_plainly (game_of c.args.self.now) c.args.by c.args.place.location (standing c.args.place.clocks) c.args.edge c.wait_in.result c.in_default.is (c.wait_in.ensures (game_of c.args.self.now))

pub take_edge-requires : goal.take_edge-requires
take_edge-requires c =
    guard_checked (game_of c.args.self.now) c.args.self.now.ok c.in-Some.number c.in_ok-edge.edge
    (c.in_ok-edge.ensures ∙ ap (λ xs. slice_get xs c.in-Some.number) c.as_slice.ensures.value)
