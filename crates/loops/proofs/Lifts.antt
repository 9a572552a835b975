-- Lifting a row to what an outcome asks for.
use Rattle.std.proofs.Common.{◌≡◌, ℕ, ◌+◌, ◌<◌, ◌≤◌, cond, eqb, sym, refl, ap, subst, ⊎_elim, arith}
use Rattle.std.proofs.lemmas.Bool.{cases_eq, eq-eqb, ne_eqb, cond-true, cond-false}
use Rattle.loops.specs.Graph.{Graph, Closed, due}
use Rattle.loops.specs.Lifting.{StandsBy, Lifted}

-- at first all ranks are 0
pub lifted_none : (g : Graph) (p : ℕ) (rank pick : ℕ → ℕ) → ((s : ℕ) → s < g.size → rank s ≡ 0) → Lifted g p rank pick
lifted_none g p rank pick zeros =
    record {
      since = λ _. 0;
      moment = 1;
      past = λ s. omega arith;
      stands = λ s b h. absurd (omega (arith, zeros s b));
      least = λ other k s b. omega (arith, zeros s b);
    }

module _ (g : Graph) (p : ℕ) (rank rank' pick pick' : ℕ → ℕ) (closed : Closed g) (was : Lifted g p rank pick) (s i : ℕ)
    (b : s < g.size) (k : i < g.count s) (c : g.colour s i ≤ p) (up : rank s < due g p rank s i)
    (here : rank' s ≡ due g p rank s i) (there : (r : ℕ) → (r ≡ s → ⊥) → rank' r ≡ rank r)
    (picked : pick' s ≡ i) (others : (r : ℕ) → (r ≡ s → ⊥) → pick' r ≡ pick r) where
  since' : ℕ → ℕ
  since' r = cond (eqb r s) was.moment (was.since r)

  since_here : (r : ℕ) → r ≡ s → since' r ≡ was.moment
  unfolding since'
  since_here r e = cond-true _ _ _ (eq-eqb r s e)

  since_there : (r : ℕ) → (r ≡ s → ⊥) → since' r ≡ was.since r
  unfolding since'
  since_there r e = cond-false _ _ _ (ne_eqb r s e)

  past : (r : ℕ) → since' r < was.moment + 1
  past r =
      ⊎_elim (λ (e : r ≡ s). omega (arith, since_here r e)) (λ (e : r ≡ s → ⊥). omega (arith, since_there r e, was.past r)) (cases_eq r s)

  -- no rank falls
  rises : (r : ℕ) → rank r ≤ rank' r
  rises r = ⊎_elim (λ (e : r ≡ s). omega (arith, ap rank e, ap rank' e)) (λ (e : r ≡ s → ⊥). omega (arith, there r e)) (cases_eq r s)

  stands_here : StandsBy g p rank' since' s i
  stands_here =
      record {
        there = k;
        small = c;
        most = omega (arith, rises (g.to s i));
        before = λ q.
            ⊎_elim
            (λ (e : g.to s i ≡ s). absurd (omega (arith, ap rank e, ap rank' e)))
            (λ (e : g.to s i ≡ s → ⊥). omega (arith, since_here s refl, since_there (g.to s i) e, was.past (g.to s i)))
            (cases_eq (g.to s i) s);
      }

  stands_there : (r j : ℕ) → (r ≡ s → ⊥) → StandsBy g p rank was.since r j → StandsBy g p rank' since' r j
  stands_there r j ne x =
      record {
        there = x.there;
        small = x.small;
        most = omega (arith, x.most, there r ne, rises (g.to r j));
        before = λ q.
            ⊎_elim
            (λ (e : g.to r j ≡ s). absurd (omega (arith, x.most, there r ne, ap rank e, ap rank' e)))
            (λ (e : g.to r j ≡ s → ⊥).
            let y = there (g.to r j) e in
            let z = there r ne in
            omega (arith, since_there r ne, since_there (g.to r j) e, x.before (omega arith)))
            (cases_eq (g.to r j) s);
      }

  pub lifted_more : Lifted g p rank' pick'
  lifted_more =
      record {
        since = since';
        moment = was.moment + 1;
        past = past;
        stands = λ r h pos.
            ⊎_elim
            (λ (e : r ≡ s).
            let y : StandsBy g p rank' since' s (pick' s) = rw picked stands_here in
            let G : ℕ → Type 0 = λ x. StandsBy g p rank' since' x (pick' x) in
            subst G (sym e) y)
            (λ (e : r ≡ s → ⊥). rw (others r e) (stands_there r (pick r) e (was.stands r h (omega (arith, there r e)))))
            (cases_eq r s);
        least = λ other keeps r h.
            ⊎_elim
            (λ (e : r ≡ s). omega (arith, ap rank' e, ap other e, was.least other keeps (g.to s i) (closed s i b k), keeps s i b k c))
            (λ (e : r ≡ s → ⊥). omega (arith, there r e, was.least other keeps r h))
            (cases_eq r s);
      }
