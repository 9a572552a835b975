use Rattle.std.proofs.Common.{◌≡◌, ℕ, ◌<◌, length, None, Some, unwrap_or, sym, ap, ◌∙◌, subst, arith, below_more}
use Rattle.std.proofs.Math.Logic.{∥∥₁_elim}
use Rattle.std.specs.Coded.{le_prop}
use Rattle.plan.specs.declared.passage.Passage.{Passage}
use Rattle.table.specs.Odd.{odd}
use Rattle.loops.specs.Lifting.{Lifted, after, OnRing}
use Rattle.loops.proofs.Rings.{after_more, most_steps, on_ring}
use Rattle.ranker.specs.Arcs.{Told}
use Rattle.ranker.specs.Lifts.{rank_in, place_in, pick_in}
use Rattle.ranker.proofs.Raises.{lifter_is, arc_to, picks, leads}
use Rattle.ranker.proofs.lifting.Lifting.ring_from.Goals as goal

pub returns-in_default : goal.returns-in_default
returns-in_default c =
    let self = c.args.self.now in
    let ranks = self.ranks.now in
    let pick = pick_in self.arcs.list.now self.by in
    let at = c.loop-step.at in
    let zero = lifter_is self.arcs.list.now at (rank_in ranks at) (place_in self.by at) None (self.own at c.loop-step.invariant.0) (sym c.in_default.is ∙ c.lifter.ensures) in
    ∥∥₁_elim (rw self.rows self.arcs.told) le_prop
    (λ (t : Told (length ranks) self.arcs.list.now).
    let g = t.0 in
    let inv = c.loop-step.invariant.1 g t.1 in
    ∥∥₁_elim (self.lifted g t.1) le_prop
    (λ (l : Lifted g (odd self.colour) (rank_in ranks) pick).
    omega (arith, zero, most_steps g (odd self.colour) (rank_in ranks) pick t.1.closed l c.loop-step._step c.args.row (omega (arith, t.1.size)) inv.1, ap (rank_in ranks) inv.0)))

pub loop-step-preserved : goal.loop-step-preserved
loop-step-preserved c =
    let self = c.args.self.now in
    let arcs = self.arcs.list.now in
    let ranks = self.ranks.now in
    let pick = pick_in arcs self.by in
    let at = c.loop-step.at in
    let own = lifter_is arcs at (rank_in ranks at) (place_in self.by at) (Some c.in-Some.arc) (self.own at c.loop-step.invariant.0) (sym c.in-Some.is ∙ c.lifter.ensures) in
    let here : 0 < rank_in ranks at = own.0 in
    let to-is = ap (λ (a : Passage). a.to) own.2 in (
      omega (arith, self.rows, to-is, arc_to self.arcs.rows arcs (unwrap_or (place_in self.by at) 0) self.arcs.told own.1),
      λ g tells.
          let inv = c.loop-step.invariant.1 g tells in
          let R : ℕ → Type 0 = λ x. 0 < rank_in ranks x in (
            after_more g pick c.loop-step._step c.args.row
                ∙ ap (λ (x : ℕ). g.to x (pick x)) inv.0
                ∙ (leads g arcs ranks self.by self.own tells at c.loop-step.invariant.0 here ∙ sym to-is),
            below_more _ _ inv.1 (subst R (sym inv.0) here),
          ),
    )

pub returns : goal.returns
returns c = λ g tells.
    let self = c.args.self.now in
    let ranks = self.ranks.now in
    let pick = pick_in self.arcs.list.now self.by in
    let inv = c.loop-step.invariant.1 g tells in
    let n : g.size ≡ length ranks = tells.size in
    let k : c.loop-step._step ≡ g.size = omega arith in
    let K : ℕ → Type 0 = λ x. after g pick x c.args.row ≡ c.loop-step.at in
    let ring = on_ring g (rank_in ranks) pick tells.closed (picks g self.arcs.list.now ranks self.by self.own tells) c.args.row (omega arith) (λ j b. inv.1 j (omega arith)) in
    let R : ℕ → ℕ → Type 0 = λ x y. OnRing g (rank_in ranks) pick x y in
    subst (λ (x : ℕ). R x c.loop-step.at) n (subst (R g.size) (subst K k inv.0) ring)
