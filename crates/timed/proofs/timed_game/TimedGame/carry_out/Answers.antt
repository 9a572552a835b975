use Rattle.std.proofs.Common.{is_some, ap, ◌∙◌}
use Rattle.regions.specs.Standing.{standing}
use Rattle.timed.specs.Code.{game_of}
use Rattle.timed.proofs.Answering.{legal_some, carried_from}
use Rattle.timed.proofs.timed_game.TimedGame.carry_out.Goals as goal

pub returns : goal.returns
returns c =
    let e = c.carry_out_from.ensures
    ∙ carried_from (game_of c.args.self.now) c.args.by c.args.p c.args.m c.in_ok-place.place.location (standing c.in_ok-place.place.clocks) c.in_ok-place.ensures.test c.in_ok-place.ensures.stands.0 c.in_ok-place.ensures.stands.1 in
    record { test = ap is_some e ∙ legal_some (game_of c.args.self.now) c.args.by c.args.p c.args.m; result = e }
