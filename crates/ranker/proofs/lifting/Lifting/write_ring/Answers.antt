use Rattle.std.proofs.Common.{◌≡◌, ◌+◌, length, Some, unwrap_or, sym, ap, ◌∙◌, arith}
use Rattle.plan.specs.declared.passage.Passage.{Passage}
use Rattle.loops.specs.Graph.{Graph}
use Rattle.table.specs.Odd.{odd}
use Rattle.ranker.specs.Arcs.{arc_at, Tells}
use Rattle.ranker.specs.Lifts.{rank_in, place_in, pick_in}
use Rattle.ranker.proofs.Raises.{lifter_is}
use Rattle.ranker.proofs.Writing.{odd_is, along_none, along_within, along_more, along_all}
use Rattle.ranker.proofs.lifting.Lifting.write_ring.Goals as goal

pub loop-k-init : goal.loop-k-init
loop-k-init c =
    let self = c.args.self.now in
    let was = c.args.losing.now in
    let none = λ (g : Graph) (tells : Tells (length self.ranks.now) self.arcs.list.now g). along_none g (pick_in self.arcs.list.now self.by) c.args.row was in
    let w = along_within self.arcs.list.now self.ranks.now self.by c.args.row self.own c.requires.ring (rw self.rows self.arcs.told) was was 0 c.args.row none in
    (w.0, w.1.0, w.1.1, none)

pub returns-then-at-row : goal.returns-then-at-row
returns-then-at-row c = λ g tells.
    let self = c.args.self.now in
    let at = c.loop-k.at in
    let own = lifter_is self.arcs.list.now at (rank_in self.ranks.now at) (place_in self.by at) (Some c.in-Some.arc) (self.own at c.loop-k.invariant.0) (sym c.in-Some.is ∙ c.lifter.ensures) in
    let back = sym (ap (λ (a : Passage). a.to) own.2) ∙ c.if-at-row.true in
    rw own.2
    (along_all self.arcs.list.now self.ranks.now self.by c.args.row self.own c.requires.ring g tells c.args.losing.now c.loop-k.losing c.loop-k.k c.loop-k.at
    (c.loop-k.invariant.3 g tells) (odd self.colour) self.lifted (omega arith) back (odd_is self.colour))

pub loop-k-preserved : goal.loop-k-preserved
loop-k-preserved c =
    let self = c.args.self.now in
    let was = c.args.losing.now in
    let at = c.loop-k.at in
    let own = lifter_is self.arcs.list.now at (rank_in self.ranks.now at) (place_in self.by at) (Some c.in-Some.arc) (self.own at c.loop-k.invariant.0) (sym c.in-Some.is ∙ c.lifter.ensures) in
    let on = λ (e : (arc_at self.arcs.list.now (unwrap_or (place_in self.by at) 0)).to ≡ c.args.row). c.if-at-row.false (ap (λ (a : Passage). a.to) own.2 ∙ e) in
    let more = λ (g : Graph) (tells : Tells (length self.ranks.now) self.arcs.list.now g).
    along_more self.arcs.list.now self.ranks.now self.by c.args.row self.own c.requires.ring g tells was c.loop-k.losing c.loop-k.k c.loop-k.at (c.loop-k.invariant.3 g tells) (omega arith) on in
    let w = along_within self.arcs.list.now self.ranks.now self.by c.args.row self.own c.requires.ring (rw self.rows self.arcs.told) was _ (c.loop-k.k + 1) _ more in
    rw own.2 (w.0, w.1.0, w.1.1, more)
