-- What holds of each outcome, and how many there are.
use Rattle.std.proofs.Common.{◌≡◌, ℕ, zero, suc, ◌+◌, ◌*◌, ◌<◌, ◌≤◌, Bool, true, false, ◌&&◌, eqb, leb, List, length, Some, None, Option, refl, ap, mul-le-mul_right, arith, length-append}
use Rattle.std.specs.List.{AllByRecursion}
use Rattle.std.proofs.ByRecursion.{All-append}
use Rattle.std.proofs.lemmas.Bool.{and_parts, leb-true, eqb-true}
use Rattle.arena.specs.declared.moves.Side.{Side}
use Rattle.arena.specs.declared.moves.Side.TheVariants.{Us, Them}
use Rattle.arena.specs.declared.moves.Outcome.{Outcome}
use Rattle.clocks.specs.Regions.{Part, waits}
use Rattle.regions.specs.Code.{is_own}
use Rattle.game.specs.Game.{Game, Place, place, last_whole, keeps, owns, result_of, edge_at, may_take, welcomed, legal, each, given, their_edge, theirs_at, ours_at, outcomes}

all_each : {A : Type 0} (P : A → Type 0) (n : ℕ) (f : ℕ → List A) → ((j : ℕ) → j < n → AllByRecursion P (f j)) → AllByRecursion P (each n f)
all_each P zero f h = tt
all_each P (suc n) f h = All-append P (each n f) (f n) (all_each P n f (λ j l. h j (omega arith))) (h n (omega arith))

all_given : {A : Type 0} (P : A → Type 0) (b : Bool) (x : A) → (b ≡ true → P x) → AllByRecursion P (given b x)
all_given P true x h = (h refl, tt)
all_given P false x h = tt

length_each_le : {A : Type 0} (b n : ℕ) (f : ℕ → List A) → ((j : ℕ) → length (f j) ≤ b) → length (each n f) ≤ n * b
length_each_le b zero f h = omega arith
length_each_le b (suc n) f h =
    let a = length_each_le b n f h in
    let c = h n in
    let m : suc n * b ≡ n * b + b = omega arith in
    simp length-append (omega arith)

-- an own position taken apart
pub owns_parts : (g : Game) (l : ℕ) (r : List Part) → owns g (place l r) ≡ true → (is_own r ≡ true) × (last_whole r ≡ 0) × (keeps g l r ≡ true)
owns_parts g l r h =
    let a = and_parts (is_own r) (eqb (last_whole r) 0 && keeps g l r) h in
    let b = and_parts (eqb (last_whole r) 0) (keeps g l r) a.1 in
    (a.0, eqb-true (last_whole r) 0 b.0, b.1)

-- and a legal move
pub record Allowed (g : Game) (s : Side) (l : ℕ) (r : List Part) (k : ℕ) (e : Option ℕ) : Type 0 where
  pub own : owns g (place l r) ≡ true
  pub steps : k ≤ 96
  pub reached : List Part
  pub waited : waits k r ≡ Some reached
  pub kept : keeps g l reached ≡ true
  pub taken : may_take g s l reached e ≡ true

pub allowed : (g : Game) (s : Side) (l : ℕ) (r : List Part) (k : ℕ) (e : Option ℕ) → legal g s (place l r) k e ≡ true → Allowed g s l r k e
allowed g s l r k e h =
    let a = and_parts (owns g (place l r)) (leb k 96 && welcomed g s l e (waits k r)) h in
    let b = and_parts (leb k 96) (welcomed g s l e (waits k r)) a.1 in
    at (waits k r) refl a.0 (leb-true k 96 b.0) b.1
  where
    at : (o : Option (List Part)) → waits k r ≡ o → owns g (place l r) ≡ true → k ≤ 96 → welcomed g s l e o ≡ true → Allowed g s l r k e
    at None w i m h = let n : ◌≡◌ {A = ℕ} 0 1 = cc in let v : ⊥ = omega arith in absurd v
    at (Some q) w i m h =
        let t = and_parts (keeps g l q) (may_take g s l q e) h in
        record { own = i; steps = m; reached = q; waited = w; kept = t.0; taken = t.1 }

module _ (g : Game) (l : ℕ) (r : List Part) (k : ℕ) (e : Option ℕ) where
  -- what holds of our move carried out, and of each move of theirs after 0 to k steps, holds of each outcome
  pub all_outcomes : (P : Outcome Place → Type 0)
      → ((q : List Part) → waits k r ≡ Some q → P (result_of g Us l (edge_at g e) q))
      → ((j : ℕ) → j ≤ k → (q : List Part) → waits j r ≡ Some q → (f : Option ℕ) → may_take g Them l q f ≡ true → P (result_of g Them l (edge_at g f) q))
      → AllByRecursion P (outcomes g (place l r) k e)
  all_outcomes P us them =
      All-append P (ours_at g l e (waits k r)) (each (suc k) (λ j. theirs_at g l (waits j r))) (ours (waits k r) refl)
      (all_each P (suc k) (λ j. theirs_at g l (waits j r)) (λ j n. there j (omega arith) (waits j r) refl))
    where
      ours : (w : Option (List Part)) → waits k r ≡ w → AllByRecursion P (ours_at g l e w)
      ours None i = tt
      ours (Some q) i = (us q i, tt)

      there : (j : ℕ) → j ≤ k → (w : Option (List Part)) → waits j r ≡ w → AllByRecursion P (theirs_at g l w)
      there j n None i = tt
      there j n (Some q) i = (
        them j n q i None refl,
        all_each P (length g.edges) (their_edge g l q)
            (λ i' _. all_given P (may_take g Them l q (Some i')) (result_of g Them l (edge_at g (Some i')) q) (them j n q i (Some i'))),
      )

  theirs_few : length g.edges ≤ 64 → (w : Option (List Part)) → length (theirs_at g l w) ≤ 65
  theirs_few m None = omega arith
  theirs_few m (Some q) = let a = length_each_le 1 (length g.edges) (their_edge g l q) (λ i. one (may_take g Them l q (Some i)) (result_of g Them l (edge_at g (Some i)) q)) in omega arith
    where
      one : (b : Bool) (o : Outcome Place) → length (given b o) ≤ 1
      one true o = omega arith
      one false o = omega arith

  -- our move, and after each of 0 to 96 steps a wait and at most 64 edges
  pub outcomes_few : length g.edges ≤ 64 → legal g Us (place l r) k e ≡ true
      → (1 ≤ length (outcomes g (place l r) k e)) × (length (outcomes g (place l r) k e) ≤ 1 + 97 * 65)
  outcomes_few m h =
      let a = allowed g Us l r k e h in
      let b = length_each_le 65 (suc k) (λ j. theirs_at g l (waits j r)) (λ j. theirs_few m (waits j r)) in
      let c : length (ours_at g l e (waits k r)) ≡ 1 = ap (λ w. length (ours_at g l e w)) a.waited in
      let d = length-append (ours_at g l e (waits k r)) (each (suc k) (λ j. theirs_at g l (waits j r))) in
      let n : suc k ≤ 97 = omega (arith, a.steps) in
      let t : suc k * 65 ≤ 97 * 65 = mul-le-mul_right 65 n in
      (omega arith, omega arith)
