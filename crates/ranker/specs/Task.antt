-- What stays as ranks are lifted.
use Rattle.std.specs.Prelude.{◌≡◌}
use Rattle.ranker.specs.declared.lifting.Lifting.{Lifting}

-- the arcs, the colour and the list that is filled are the same
pub record SameTask (was is : Lifting) : Type 0 where
  pub arcs : is.arcs ≡ was.arcs
  pub colour : is.colour ≡ was.colour
  pub list : is.ranks.ghost_name ≡ was.ranks.ghost_name
