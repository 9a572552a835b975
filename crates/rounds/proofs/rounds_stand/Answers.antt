use Rattle.std.proofs.Common.{refl}
use Rattle.rounds.proofs.rounds_stand.Goals as goal
use Rattle.rounds.proofs.Plays.{played, playable}

pub returns : goal.returns
returns c = record { answer = refl; played = played; playable = playable }
