-- Ranks that keep the rule for a colour rule out its losing loops.
use Rattle.std.proofs.Common.{◌≡◌, ℕ, ◌<◌, ◌≤◌, cond, eqb, List, [], ◌∷◌, ap, ⊎_elim, arith}
use Rattle.std.proofs.lemmas.Bool.{cases_eq, eq-eqb}
use Rattle.loops.specs.declared.pair.Pair.{Pair}
use Rattle.loops.specs.Graph.{Graph, Leads, largest, NoLoop, Keeps}

module _ (g : Graph) (p : ℕ) (rank : ℕ → ℕ) (keeps : Keeps g p rank) where
  -- along colours up to p no rank rises
  pub falls : (s i : ℕ) → s < g.size → i < g.count s → g.colour s i ≤ p → rank (g.to s i) ≤ rank s
  falls s i b k c = omega (arith, keeps s i b k c)

  -- and it falls with colour p
  pub falls_by : (s i : ℕ) → s < g.size → i < g.count s → g.colour s i ≡ p → rank (g.to s i) < rank s
  falls_by s i b k c =
      let q : cond {A = ℕ} (eqb (g.colour s i) p) 1 0 ≡ 1 = rw (eq-eqb (g.colour s i) p c) in
      omega (arith, keeps s i b k (omega arith))

  down : (es : List Pair) (s t : ℕ) → Leads g s es t → largest g es ≤ p → rank t ≤ rank s
  down [] s t l h = omega (arith, ap rank l)
  down (e ∷ es) s t l h =
      let c : g.colour s e.outcome ≤ p = omega (arith, ap (λ r. g.colour r e.outcome) l.0) in
      omega (arith, down es (g.to s e.outcome) t l.3 (omega arith), falls s e.outcome l.1 l.2 c)

  down_by : (es : List Pair) (s t : ℕ) → Leads g s es t → largest g es ≡ p → 1 ≤ p → rank t < rank s
  down_by [] s t l h o = absurd (omega arith)
  down_by (e ∷ es) s t l h o =
      let x = ap (λ r. g.colour r e.outcome) l.0 in
      ⊎_elim
      (λ (q : g.colour s e.outcome ≡ p).
      omega (arith, down es (g.to s e.outcome) t l.3 (omega arith), falls_by s e.outcome l.1 l.2 q))
      (λ (q : g.colour s e.outcome ≡ p → ⊥).
      omega (arith, down_by es (g.to s e.outcome) t l.3 (omega (arith, x)) o, falls s e.outcome l.1 l.2 (omega (arith, x))))
      (cases_eq (g.colour s e.outcome) p)

  pub none_losing : NoLoop g p
  none_losing loop l = omega (arith, down_by loop l.first l.first l.round l.top (omega (arith, l.odd)))
