-- The program's game.
use Rattle.std.specs.Prelude.{vec_items}
use Rattle.game.specs.Game.{Game, game}
use Rattle.timed.specs.declared.timed_game.TimedGame.{TimedGame}

abbrev pub game_of : TimedGame → Game
game_of t = game t.ceilings (vec_items t.locations) (vec_items t.edges)
