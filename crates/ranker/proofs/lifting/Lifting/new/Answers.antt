use Rattle.std.proofs.Common.{◌≡◌, ℕ, ◌<◌, List, length, get_or, None, Option, ap, ◌∙◌, arith}
use Rattle.std.proofs.lemmas.List.{get_or-replicate}
use Rattle.loops.proofs.Lifts.{lifted_none}
use Rattle.ranker.specs.Lifts.{rank_in}
use Rattle.ranker.proofs.lifting.Lifting.new.Goals as goal

pub invariant_of-result : goal.invariant_of-result
invariant_of-result c =
    let zeros : (s : ℕ) → s < length c.fill.new.self → rank_in c.fill.new.self s ≡ 0 = λ s b.
    ap (λ (x : List ℕ). get_or x s 0) (c.fill.ensures.after (λ y e. e)) ∙ get_or-replicate (length c.args.ranks.now) s 0 0 (omega (arith, c.fill.ensures.len)) in
    record {
      rows = c.fill.ensures.len ∙ c.requires;
      own = λ s b. rw (get_or-replicate {A = Option ℕ} 1024 s None None (omega (arith, c.fill.ensures.len, c.requires, c.args.arcs.small))) (zeros s b);
      lifted = λ g tells. (∣ lifted_none g _ _ _ (λ s b. zeros s (omega (arith, tells.size))) ∣₁);
    }
