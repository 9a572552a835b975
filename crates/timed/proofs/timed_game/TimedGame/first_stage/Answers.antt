use Rattle.std.proofs.Common.{ap, ◌∙◌}
use Rattle.arena.specs.declared.moves.Side.TheVariants.{Us}
use Rattle.regions.specs.Standing.{standing}
use Rattle.timed.specs.Code.{game_of}
use Rattle.timed.specs.Rest.{rest}
use Rattle.timed.proofs.Answering.{carried_nowhere, carried_from}
use Rattle.timed.proofs.Listing.{nothing_listed, first_listed}
use Rattle.timed.proofs.timed_game.TimedGame.first_stage.Goals as goal

pub returns-in_err-place : goal.returns-in_err-place
returns-in_err-place c =
    ap (rest (game_of c.args.self.now) c.args.m.steps) c.from_residual.ensures
    ∙ nothing_listed (game_of c.args.self.now) c.args.p c.args.m
    (carried_nowhere (game_of c.args.self.now) Us c.args.p c.args.m c.in_err-place.ensures.test)

pub returns-in_err-ours : goal.returns-in_err-ours
returns-in_err-ours c =
    ap (rest (game_of c.args.self.now) c.args.m.steps) c.from_residual-in_err-ours.ensures
    ∙ nothing_listed (game_of c.args.self.now) c.args.p c.args.m
    (c.in_err-ours.ensures ∙ carried_from (game_of c.args.self.now) Us c.args.p c.args.m c.in_ok-place.place.location (standing c.in_ok-place.place.clocks) c.in_ok-place.ensures.test c.in_ok-place.ensures.stands.0 c.in_ok-place.ensures.stands.1)

pub returns : goal.returns
returns c =
    first_listed (game_of c.args.self.now) c.args.p c.args.m c.in_ok-ours.ours c.in_ok-place.place.location (standing c.in_ok-place.place.clocks) c.in_ok-place.ensures.stands.0 c.in_ok-place.ensures.stands.1
    (c.in_ok-ours.ensures ∙ carried_from (game_of c.args.self.now) Us c.args.p c.args.m c.in_ok-place.place.location (standing c.in_ok-place.place.clocks) c.in_ok-place.ensures.test c.in_ok-place.ensures.stands.0 c.in_ok-place.ensures.stands.1)
