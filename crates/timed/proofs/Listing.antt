-- Outcomes given one by one.
use Rattle.std.proofs.Common.{◌≡◌, ℕ, suc, ◌+◌, ◌-◌, ◌<◌, Bool, true, false, cond, List, [], ◌∷◌, ◌++◌, map, length, is_some, Some, None, sym, refl, ap, ◌∙◌, arith, ◌≤◌, ◌⊎◌, get_or, inl, inr}
use mathlib.Core.List.{map-append}
use Rattle.std.specs.List.{slice_get}
use Rattle.std.proofs.lemmas.Option.{slice_get_cases}
use Rattle.std.proofs.lemmas.Bool.{cond-true}
use Rattle.arena.specs.declared.moves.Side.TheVariants.{Us, Them}
use Rattle.arena.specs.declared.moves.Move.{Move}
use Rattle.arena.specs.declared.moves.Outcome.{Outcome}
use Rattle.clocks.specs.Regions.{Part, next}
use Rattle.game.specs.declared.parts.Edge.{Edge}
use Rattle.game.specs.declared.parts.TimedPosition.{TimedPosition}
use Rattle.game.specs.Game.{Game, Place, fits, given, legal, result_of, edge_at, their_edge, ours_at, outcomes}
use Rattle.game.specs.Listing.{edges_from, theirs_over, theirs_after}
use Rattle.game.specs.Timed.{place_of, in_code, timed_meaning}
use Rattle.game.proofs.Outcomes.{allowed}
use Rattle.game.proofs.Listings.{listed, by_region, beyond, by_edge}
use Rattle.timed.specs.Carried.{carried_out}
use Rattle.timed.proofs.Tables.{some_when, none_when}
use Rattle.timed.proofs.Answering.{legal_some}

-- the beginning of a listing
module _ (g : Game) (p : TimedPosition) (m : Move) where
  pub nothing_listed : None ≡ carried_out g Us p m → [] ≡ (timed_meaning g).outcomes p m
  nothing_listed e =
      let n : legal g Us (place_of g p) m.steps m.edge ≡ false = sym (legal_some g Us p m) ∙ ap is_some (sym e) in
      rw n refl

  pub first_listed : (o : Outcome TimedPosition) (l : ℕ) (q : List Part) → l ≡ p.location → q ≡ (place_of g p).region → Some o ≡ carried_out g Us p m
      → o ∷ map in_code (theirs_over g l m.steps (Some q)) ≡ (timed_meaning g).outcomes p m
  first_listed o l q j i e =
      let t : legal g Us (place_of g p) m.steps m.edge ≡ true = sym (legal_some g Us p m) ∙ ap is_some (sym e) in
      let a = allowed g Us p.location (place_of g p).region m.steps m.edge t in
      let f : Some o ≡ Some (in_code (result_of g Us p.location (edge_at g m.edge) a.reached)) = rw (t, a.waited) at e in
      let d : o ≡ in_code (result_of g Us p.location (edge_at g m.edge) a.reached) = cc in
      let all : outcomes g (place_of g p) m.steps m.edge ≡ result_of g Us p.location (edge_at g m.edge) a.reached ∷ theirs_over g p.location m.steps (Some (place_of g p).region) =
      listed g (place_of g p) m.steps m.edge ∙ ap (λ w. ours_at g p.location m.edge w ++ theirs_over g p.location m.steps (Some (place_of g p).region)) a.waited in
      ap (λ l. o ∷ map in_code (theirs_over g l m.steps (Some q))) j
      ∙ ap (λ q. o ∷ map in_code (theirs_over g p.location m.steps (Some q))) i
      ∙ ap (λ o. o ∷ map in_code (theirs_over g p.location m.steps (Some (place_of g p).region))) d
      ∙ ap (map in_code) (sym all)
      ∙ sym (cond-true (legal g Us (place_of g p) m.steps m.edge) (map in_code (outcomes g (place_of g p) m.steps m.edge)) [] t)

-- from region to region
module _ (g : Game) (l k : ℕ) (q : List Part) where
  pub entered : (o : Outcome TimedPosition) → o ≡ in_code (result_of g Them l None q)
      → map in_code (theirs_over g l k (Some q)) ≡ o ∷ map in_code (edges_from g l q 0 ++ theirs_after g l k q)
  entered o e = ap (map in_code) (by_region g l k q) ∙ ap (λ o. o ∷ map in_code (edges_from g l q 0 ++ theirs_after g l k q)) (sym e)

  after : (n : ℕ) → k ≡ suc n → theirs_after g l k q ≡ theirs_over g l n (next q)
  after n i = ap (λ k. theirs_after g l k q) i

  pub no_more : 0 < k → None ≡ next q → map in_code (theirs_after g l k q) ≡ []
  no_more z e = ap (map in_code) (after (k - 1) (omega arith) ∙ ap (theirs_over g l (k - 1)) (sym e) ∙ beyond g l (k - 1))

  pub one_more : (a : List Part) → 0 < k → Some a ≡ next q → map in_code (theirs_after g l k q) ≡ map in_code (theirs_over g l (k - 1) (Some a))
  one_more a z e = ap (map in_code) (after (k - 1) (omega arith) ∙ ap (theirs_over g l (k - 1)) (sym e))

-- from edge to edge
module _ (g : Game) (l : ℕ) (q : List Part) (i : ℕ) (e : Edge) (at : Some e ≡ slice_get g.edges i) (n : i < length g.edges) where
  edge_there : (b : Bool) → fits g Them l q e ≡ b → their_edge g l q i ≡ given b (result_of g Them l (Some e) q)
  edge_there b h = rw (← at, h) refl

  pub edge_given : (o : Outcome TimedPosition) → Some o ≡ cond (fits g Them l q e) (Some (in_code (result_of g Them l (Some e) q))) None
      → map in_code (edges_from g l q i) ≡ o ∷ map in_code (edges_from g l q (i + 1))
  edge_given o h =
      let t = some_when (fits g Them l q e) o (in_code (result_of g Them l (Some e) q)) h in
      ap (map in_code) ((by_edge g l q i).0 n ∙ ap (λ xs. xs ++ edges_from g l q (i + 1)) (edge_there true t.0))
      ∙ ap (λ o. o ∷ map in_code (edges_from g l q (i + 1))) (sym t.1)

  pub edge_passed : None ≡ cond (fits g Them l q e) (Some (in_code (result_of g Them l (Some e) q))) None → edges_from g l q i ≡ edges_from g l q (i + 1)
  edge_passed h =
      let t = none_when (fits g Them l q e) (in_code (result_of g Them l (Some e) q)) h in
      (by_edge g l q i).0 n ∙ ap (λ xs. xs ++ edges_from g l q (i + 1)) (edge_there false t)

-- past the last edge
pub edges_end : (g : Game) (l : ℕ) (q : List Part) (i : ℕ) → None ≡ slice_get g.edges i → edges_from g l q i ≡ []
edges_end g l q i e = (by_edge g l q i).1 (past (slice_get_cases g.edges i).1)
  where
    past : ((x : Edge) × (i < length g.edges) × (slice_get g.edges i ≡ Some x) × (get_or g.edges i x ≡ x)) ⊎ ((length g.edges ≤ i) × (slice_get g.edges i ≡ None)) → length g.edges ≤ i
    past (inl h) = let z : ◌≡◌ {A = ℕ} 0 1 = cc in let w : ⊥ = omega arith in absurd w
    past (inr h) = h.0

-- an edge is handed out
pub edge_handed : (o : Outcome TimedPosition) (xs ys zs : List (Outcome Place)) → map in_code xs ≡ o ∷ map in_code ys → map in_code (xs ++ zs) ≡ o ∷ map in_code (ys ++ zs)
edge_handed o xs ys zs e = map-append in_code xs zs ∙ ap (λ os. os ++ map in_code zs) e ∙ ap (λ os. o ∷ os) (sym (map-append in_code ys zs))

-- or they have none left in this region
pub edges_over : (xs zs : List (Outcome Place)) → map in_code xs ≡ [] → map in_code (xs ++ zs) ≡ map in_code zs
edges_over xs zs e = map-append in_code xs zs ∙ ap (λ os. os ++ map in_code zs) e
