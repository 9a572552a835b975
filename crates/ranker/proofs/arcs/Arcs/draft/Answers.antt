use Rattle.std.proofs.Common.{ℕ, ◌+◌, ◌-◌, ◌*◌, ◌<◌, List, [], ◌∷◌, get_or, sym, refl, ◌∙◌, subst, arith}
use Rattle.std.proofs.lemmas.Result.{err_from_is_err_and}
use Rattle.table.specs.declared.odd.OddColour.TheVariants.{One, Three, Five, Seven}
use Rattle.table.specs.Odd.{odd}
use Rattle.loops.specs.declared.pair.Pair.{Pair}
use Rattle.loops.specs.Graph.{NoLoop}
use Rattle.ranker.specs.Lifts.{rank_in, Smallest}
use Rattle.ranker.specs.Loops.{Written}
use Rattle.ranker.proofs.Stretches.{odd_at, all_drafted, stretch_end, stretch_length, drafted_more, none_smaller}
use Rattle.ranker.proofs.arcs.Arcs.draft.Goals as goal

pub returns-in_err-draft_colour-clause-drafted : goal.returns-in_err-draft_colour-clause-drafted
returns-in_err-draft_colour-clause-drafted c = λ g tells.
    let q = c.loop-q.q in
    let n = c.args.self.now.rows in
    let d = c.in_err-draft_colour.ensures.drafted g tells in
    let colour = get_or (One ∷ Three ∷ Five ∷ Seven ∷ []) q One in
    let W : List Pair → Type 0 = λ was. Written g (odd colour) was d.0 c.draft_colour.new.losing in
    let N : ℕ → Type 0 = λ p. (r : ℕ) → r < p → NoLoop g r in
    let p = err_from_is_err_and c.from_residual.result c.from_residual.ensures.1 in
    rw (p.1, p.2) (
      d.0,
      colour,
      d.1,
      subst W c.loop-q.invariant.0 d.2,
      subst N (sym (odd_at q One (omega arith))) (none_smaller g q n c.loop-q.draft (c.loop-q.invariant.1 g tells)),
    )

pub loop-q-preserved : goal.loop-q-preserved
loop-q-preserved c =
    let q = c.loop-q.q in
    let n = c.args.self.now.rows in
    let part = stretch_length q n c.loop-q.draft (omega arith) (omega arith) in (
      c.in_ok-draft_colour.ensures.pairs refl ∙ c.loop-q.invariant.0,
      λ g tells.
          let ranks = c.draft_colour.new.ranks in
          let new : Smallest g (2 * q + 1) (rank_in ranks) = subst (λ (p : ℕ). Smallest g p (rank_in ranks)) (odd_at q _ (omega arith)) (c.in_ok-draft_colour.ensures.drafted g tells) in
          drafted_more g q n ((q + 1) * n - q * n) c.loop-q.draft ranks tells.closed tells.size
          (omega (arith, stretch_end q n (omega arith))) (c.draft_colour.auto.ranks ∙ part) (c.loop-q.invariant.1 g tells) new,
    )

pub returns-clause-drafted : goal.returns-clause-drafted
returns-clause-drafted c = λ g tells. all_drafted g c.args.self.now.rows c.loop-q.draft (λ q b. c.loop-q.invariant.1 g tells q (omega arith))
