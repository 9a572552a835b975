use Rattle.std.proofs.Common.{◌∙◌, arith}
use Rattle.std.proofs.lemmas.List.{length-set}
use Rattle.ranker.specs.Arcs.{arc_at}
use Rattle.ranker.proofs.Raises.{arc_from, owned_more, lifted_higher, moved}
use Rattle.ranker.proofs.Sweeps.{raise_of}
use Rattle.ranker.proofs.lifting.Lifting.lift.Goals as goal

pub bounds-self-row-3 : goal.bounds-self-row-3
bounds-self-row-3 c =
    let self = c.args.self.now in
    omega (arith, self.rows, arc_from self.arcs.rows self.arcs.list.now c.args.k self.arcs.told c.requires.there)

pub invariant_of-self : goal.invariant_of-self
invariant_of-self c =
    let self = c.args.self.now in
    let raise = raise_of self c.args.k c.due-due.result (omega arith) c.requires.there (omega arith) c.due-due.ensures (omega arith) in
    let long = length-set self.ranks.now (arc_at self.arcs.list.now c.args.k).from c.due-due.result in
    record { rows = long ∙ self.rows; own = owned_more raise self.own; lifted = lifted_higher raise self.lifted }

pub returns-clause-moved : goal.returns-clause-moved
returns-clause-moved c =
    moved (raise_of c.args.self.now c.args.k c.due-due.result (omega arith) c.requires.there (omega arith) c.due-due.ensures (omega arith)) c.requires.below
