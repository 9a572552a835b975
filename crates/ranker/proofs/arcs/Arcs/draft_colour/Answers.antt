use Rattle.std.proofs.Common.{length, ◌∙◌, rules}
use Rattle.ranker.specs.Arcs.{Tells}
use Rattle.ranker.proofs.Stretches.{smallest_along}
use Rattle.ranker.proofs.arcs.Arcs.draft_colour.Goals as goal

pub returns-in-None-clause-drafted : goal.returns-in-None-clause-drafted
returns-in-None-clause-drafted c = λ g tells.
    let self = c.settle.new.self in
    let tells' : Tells (length self.ranks.now) self.arcs.list.now g = rw (self.rows, c.in-None.ensures.same.arcs ∙ c.new-lifting.ensures.arcs) tells in
    smallest_along (c.in-None.ensures.settled g tells') (search rules) (search rules)
