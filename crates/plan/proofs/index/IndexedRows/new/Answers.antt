use Rattle.std.proofs.Common.{◌≡◌, ◌∷◌, [], length, get_or, set, replicate, ℕ, Some, None, refl, sym, ap, ◌∙◌, subst, append-nil, arith}
use Rattle.std.proofs.lemmas.List.{length-set}
use Rattle.plan.specs.Index.{Indexes}
use Rattle.plan.proofs.Buckets.{index_none, index_more, one_more, one_less, taken_at}
use Rattle.plan.proofs.index.IndexedRows.new.Goals as goal

pub loop-s-init : goal.loop-s-init
loop-s-init g c =
    let i = c.into_iter-s-iterator.ensures.into_iter_gives in
    let r = c.rev-s-items.ensures.source in
    let rest = ap (λ i. i.iter.iter.rest.now) i ∙ ap (λ i. i.iter.rest.now) r ∙ ap (λ i. i.rest.now) c.enumerate.ensures.source ∙ c.iter.ensures.rest in (
      rw rest (index_none (g.A.Arena.meaning c.args.arena.now) c.args.rows.now (replicate 1024 None)),
      refl,
      refl,
      ap (λ i. i.iter.count) i ∙ ap (λ i. i.count) r ∙ c.enumerate.ensures.count,
      ([], sym rest ∙ sym (append-nil _)),
    )

pub loop-s-preserved : goal.loop-s-preserved
loop-s-preserved g c =
    let m = g.A.Arena.meaning c.args.arena.now in
    let rows = c.args.rows.now in
    let steps = c.in-Some.ensures.steps in
    let inv = c.loop-s.invariant in
    let left = c.loop-s.s-iterator.iter.iter.rest.now in
    let left' = c.next.new.self.iter.iter.rest.now in
    let row = c.in-Some.row.now in
    let old = c.loop-s.buckets in
    let is = c.push.ensures in
    let at : c.in-Some.s ≡ length left' = omega (arith, steps.1.1, inv.3) in
    let less = one_less rows left left' inv.4.0 row steps.1.0 inv.4.1 in
    let F : ℕ → Type 0 = λ n. Indexes m rows n old.heads old.links in
    let G : ℕ → Type 0 = λ n. Indexes m rows (length left') (set old.heads c.bucket_of.result (Some n)) (set old.links n (get_or old.heads c.bucket_of.result None)) in
    let more = index_more m rows (length left') c.bucket_of.result row old.heads old.links (taken_at rows left left' inv.4.0 row steps.1.0 inv.4.1) c.bucket_of.ensures (omega arith) inv.1 inv.2 (subst F less inv.0) in (
      rw (is.heads, is.links) (subst G (sym at) more),
      ap length is.heads ∙ (length-set old.heads _ _ ∙ inv.1),
      ap length is.links ∙ (length-set old.links _ _ ∙ inv.2),
      steps.0 ∙ inv.3,
      (row ∷ inv.4.0, one_more rows left left' inv.4.0 row steps.1.0 inv.4.1),
    )

pub invariant_of-result : goal.invariant_of-result
invariant_of-result g c =
    let F : ℕ → Type 0 = λ n. Indexes (g.A.Arena.meaning c.args.arena.now) c.args.rows.now n c.loop-s.buckets.heads c.loop-s.buckets.links in
    record { few = omega arith; indexed = subst F c.in-None.ensures.steps.1.0 c.loop-s.invariant.0 }
