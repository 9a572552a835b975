-- What a move comes to.
use Rattle.std.proofs.Common.{◌≡◌, ℕ, true, false, cond, ◌&&◌, leb, List, is_some, Some, None, Option, refl, ap, inl, inr, arith}
use Rattle.std.proofs.lemmas.Bool.{cases_Bool}
use Rattle.arena.specs.declared.moves.Side.{Side}
use Rattle.arena.specs.declared.moves.Move.{Move}
use Rattle.arena.specs.declared.moves.Outcome.{Outcome}
use Rattle.clocks.specs.Regions.{Part, waits}
use Rattle.game.specs.declared.parts.TimedPosition.{TimedPosition}
use Rattle.game.specs.Game.{Game, owns, welcomed, legal, may_take, edge_at, result_of}
use Rattle.game.specs.Timed.{place_of, in_code}
use Rattle.game.proofs.Outcomes.{allowed}
use Rattle.timed.specs.Carried.{resulting, reached, carried_out}

-- a move without an edge
pub taken_plainly : (g : Game) (s : Side) (l : ℕ) (q : List Part) (e : Option ℕ) (o : Outcome TimedPosition) → e ≡ None → o ≡ in_code (result_of g s l None q)
    → Some o ≡ cond (may_take g s l q e) (Some (in_code (result_of g s l (edge_at g e) q))) None
taken_plainly g s l q None o i h = ap Some h
taken_plainly g s l q (Some n) o i h = let z : ◌≡◌ {A = ℕ} 0 1 = cc in let w : ⊥ = omega arith in absurd w

-- moves from a position
module _ (g : Game) (s : Side) (p : TimedPosition) (m : Move) where
  pub legal_some : is_some (carried_out g s p m) ≡ legal g s (place_of g p) m.steps m.edge
  legal_some = elim (cases_Bool (legal g s (place_of g p) m.steps m.edge)) [
    | inl t ↦ let a = allowed g s p.location (place_of g p).region m.steps m.edge t in rw (t, a.waited) refl
    | inr t ↦ rw t refl
  ]

  module _ (o : false ≡ owns g (place_of g p)) where
    pub illegal : false ≡ legal g s (place_of g p) m.steps m.edge
    illegal = ap (λ b. b && (leb m.steps 96 && welcomed g s p.location m.edge (waits m.steps (place_of g p).region))) o

    pub carried_nowhere : None ≡ carried_out g s p m
    carried_nowhere = ap (λ b. cond b (resulting g s p.location m (waits m.steps (place_of g p).region)) None) illegal

  module _ (l : ℕ) (q : List Part) (o : true ≡ owns g (place_of g p)) (i : l ≡ p.location) (e : q ≡ (place_of g p).region) where
    pub carried_from : reached g s l q m ≡ carried_out g s p m
    carried_from = rw (i, e, ← o) refl
