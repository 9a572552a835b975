-- What stands in the list of outcomes.
use Rattle.std.proofs.Common.{◌≡◌, ℕ, zero, suc, ◌<◌, ◌≤◌, true, false, ◌⊎◌, List, [], ◌∷◌, ◌++◌, length, Some, None, Option, refl, ap, inl, inr, arith}
use Rattle.std.specs.List.{slice_get}
use Rattle.std.proofs.lemmas.Option.{slice_get_past}
use Rattle.std.proofs.lemmas.Bool.{cases_eq, cases_lt}
use Rattle.arena.specs.declared.moves.Side.{Side}
use Rattle.arena.specs.declared.moves.Side.TheVariants.{Us, Them}
use Rattle.arena.specs.declared.moves.Outcome.{Outcome}
use Rattle.clocks.specs.Regions.{Part, waits}
use Rattle.game.specs.Game.{Game, Place, place, result_of, edge_fits, edge_at, may_take, each, their_edge, theirs, theirs_at, ours_at, outcomes}
use Rattle.game.proofs.Sounds.{nth_all}
use Rattle.game.proofs.Outcomes.{all_outcomes}

abbrev pub Member : {A : Type 0} → List A → A → Type 0
Member xs x = (i : ℕ) × (slice_get xs i ≡ Some x)

member_left : {A : Type 0} (xs ys : List A) (x : A) → Member xs x → Member (xs ++ ys) x
member_left [] ys x (i, e) = let w : ◌≡◌ {A = ℕ} 0 1 = cc in let n : ⊥ = omega arith in absurd n
member_left (y ∷ xs) ys x (zero, e) = (0, e)
member_left (y ∷ xs) ys x (suc i, e) = let t = member_left xs ys x (i, e) in (suc t.0, t.1)

member_right : {A : Type 0} (xs ys : List A) (x : A) → Member ys x → Member (xs ++ ys) x
member_right [] ys x m = m
member_right (y ∷ xs) ys x m = let t = member_right xs ys x m in (suc t.0, t.1)

member_each : {A : Type 0} (n : ℕ) (f : ℕ → List A) (j : ℕ) (x : A) → j < n → Member (f j) x → Member (each n f) x
member_each zero f j x l m = let n : ⊥ = omega arith in absurd n
member_each (suc n) f j x l m = elim (cases_eq j n) [
  | inl e ↦ member_right (each n f) (f n) x (rw e at m)
  | inr e ↦ member_left (each n f) (f n) x (member_each n f j x (omega arith) m)
]

-- an edge that may be taken is there
take_there : (g : Game) (s : Side) (l : ℕ) (q : List Part) (i : ℕ) → may_take g s l q (Some i) ≡ true → i < length g.edges
take_there g s l q i h = elim (cases_lt i (length g.edges)) [
  | inl k ↦ k
  | inr k ↦
      let a : edge_fits g s l q (slice_get g.edges i) ≡ false = ap (edge_fits g s l q) (slice_get_past g.edges i k) in
      let z : ◌≡◌ {A = ℕ} 0 1 = cc in omega arith
]

module _ (g : Game) (l : ℕ) (r : List Part) (k : ℕ) (e : Option ℕ) where
  pub ours_in : (q : List Part) → waits k r ≡ Some q → Member (outcomes g (place l r) k e) (result_of g Us l (edge_at g e) q)
  ours_in q w =
      member_left (ours_at g l e (waits k r)) (each (suc k) (λ j. theirs_at g l (waits j r))) (result_of g Us l (edge_at g e) q)
      (rw w (0, refl))

  pub theirs_in : (q : List Part) (j : ℕ) (f : Option ℕ) → j ≤ k → waits j r ≡ Some q → may_take g Them l q f ≡ true
      → Member (outcomes g (place l r) k e) (result_of g Them l (edge_at g f) q)
  theirs_in q j f n w h =
      member_right (ours_at g l e (waits k r)) (each (suc k) (λ j. theirs_at g l (waits j r))) (result_of g Them l (edge_at g f) q)
      (member_each (suc k) (λ j. theirs_at g l (waits j r)) j (result_of g Them l (edge_at g f) q) (omega arith) (rw w (here f h)))
    where
      here : (f : Option ℕ) → may_take g Them l q f ≡ true → Member (theirs g l q) (result_of g Them l (edge_at g f) q)
      here None h = (0, refl)
      here (Some i) h =
          let m = member_each (length g.edges) (their_edge g l q) i (result_of g Them l (edge_at g (Some i)) q) (take_there g Them l q i h) (rw h (0, refl)) in
          (suc m.0, m.1)

  -- an outcome is our move carried out, or a move of theirs after at most k steps
  abbrev pub Ours : Outcome Place → Type 0
  Ours o = (q : List Part) × (waits k r ≡ Some q) × (o ≡ result_of g Us l (edge_at g e) q)

  abbrev pub Theirs : Outcome Place → Type 0
  Theirs o = (j : ℕ) × (j ≤ k) × (q : List Part) × (waits j r ≡ Some q) × (f : Option ℕ) × (may_take g Them l q f ≡ true) × (o ≡ result_of g Them l (edge_at g f) q)

  pub outcome_cases : (o : Outcome Place) → Member (outcomes g (place l r) k e) o → Ours o ⊎ Theirs o
  outcome_cases o m =
      nth_all (λ o. Ours o ⊎ Theirs o) (outcomes g (place l r) k e) m.0 o
      (all_outcomes g l r k e (λ o. Ours o ⊎ Theirs o) (λ q w. inl (q, w, refl)) (λ j n q w f t. inr (j, n, q, w, f, t, refl)))
      m.1
