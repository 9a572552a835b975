-- Runs over a goal are the runs below, with the automaton's states beside them.
use Rattle.std.proofs.Common.{◌≡◌, ℕ, true, List, [], ◌∷◌, map, Some, None, Option, sym, refl, ap, ◌∙◌, subst, ap₂, ⊎_elim}
use Rattle.std.specs.List.{slice_get, AllByRecursion}
use Rattle.std.specs.Option.{option_map, option_and_then}
use Rattle.std.proofs.ByRecursion.{All-get_or}
use Rattle.std.proofs.lemmas.Option.{none-some, get_or_from_slice_get, option_and_then_some, slice_get_within}
use Rattle.std.proofs.lemmas.Bool.{cond-true, cases_Bool}
use Rattle.arena.specs.Meaning.{Meaning, Lawful}
use Rattle.arena.specs.declared.moves.Outcome.{Outcome}
use Rattle.goal.specs.declared.goal.Goal.{Goal}
use Rattle.goal.specs.declared.product.GoalPosition.{GoalPosition}
use Rattle.goal.specs.Automaton.{exists, priority_in, after, read_from, read}
use Rattle.goal.specs.Product.{raised, owned, goal_meaning}
use Rattle.goal.specs.Runs.{Pick, run_from, run, along, lowered, word, RunsOver}
use Rattle.goal.specs.Automata.{first_exists, after_exists}
use Rattle.goal.specs.Laws.{by_number, goal_lawful}

mapped_some : {X Y : Type 0} (f : X → Y) (o : Option X) (y : Y) → option_map f o ≡ Some y → (x : X) × (o ≡ Some x) × (f x ≡ y)
mapped_some f None y e = absurd (none-some _ e)
mapped_some f (Some x) y e = (x, refl, cc)

map_where : {X Y Z : Type 0} (F : X → Type 0) (f : X → Z) (h : Y → Z) (k : X → Y) → ((x : X) → F x → f x ≡ h (k x)) → (xs : List X) → AllByRecursion F xs → map f xs ≡ map h (map k xs)
map_where F f h k same [] a = refl
map_where F f h k same (x ∷ xs) a = ap₂ ◌∷◌ (same x a.0) (map_where F f h k same xs a.1)

-- A lawful arena's runs go through own positions.
module _ {P : Type 0} (m : Meaning P) (ok : Lawful m) where
  abbrev Own : P → Type 0
  Own p = m.owns p ≡ true

  own_outcome : (p : P) (k : Pick) (o : Outcome P) → slice_get (m.outcomes p k.choice) k.number ≡ Some o → Own o.position
  own_outcome p k o e =
      let os = m.outcomes p k.choice in
      ⊎_elim (λ h. subst (λ x. Own x.position) (get_or_from_slice_get os k.number o o e) (All-get_or (λ x. Own x.position) os k.number o (slice_get_within os k.number o e) (ok.leads p k.choice h)))
      (λ h. absurd (none-some _ (sym (ap (λ os. slice_get os k.number) (ok.idle p k.choice h)) ∙ e))) (cases_Bool (m.legal p k.choice))

  own_from : (ks : List Pick) (p : P) (os : List (Outcome P)) → run_from m p ks ≡ Some os → AllByRecursion Own (map (λ o. o.position) os)
  own_from [] p os e = let s : [] ≡ os = cc in subst (λ xs. AllByRecursion Own (map (λ o. o.position) xs)) s tt
  own_from (k ∷ ks) p os e =
      option_and_then_some (λ o. option_map (◌∷◌ o) (run_from m o.position ks)) (slice_get (m.outcomes p k.choice) k.number) os e (λ o there more.
      let rest = mapped_some (◌∷◌ o) (run_from m o.position ks) os more in
      subst (λ xs. AllByRecursion Own (map (λ o. o.position) xs)) rest.2 (own_outcome p k o there, own_from ks o.position rest.0 rest.1))

  own_along : (ks : List Pick) (os : List (Outcome P)) → run m ks ≡ Some os → AllByRecursion Own (along m os)
  own_along ks os e = (ok.starts, own_from ks m.start os e)

module _ {P : Type 0} (m : Meaning P) (ok : Lawful m) (g : Goal) where
  -- the rounds of a run below, each with the state that it leads to
  abbrev beside : ℕ → List (Outcome P) → List (Outcome (GoalPosition P))
  beside s [] = []
  beside s (o ∷ os) = raised m g s o ∷ beside (after g s (m.label o.position)) os

  beside_more : (s : ℕ) (o : Outcome P) (rest : Option (List (Outcome P))) →
      option_map (◌∷◌ (raised m g s o)) (option_map (beside (after g s (m.label o.position))) rest) ≡ option_map (beside s) (option_map (◌∷◌ o) rest)
  beside_more s o None = refl
  beside_more s o (Some os) = refl

  -- picks make the same run above as below, from any state that exists
  abbrev Beside : List Pick → Type 0
  Beside ks = (s : ℕ) → exists g s ≡ true → (p : P) → run_from (goal_meaning m g) (record { below = p; state = s }) ks ≡ option_map (beside s) (run_from m p ks)

  onward : (ks : List Pick) → Beside ks → (s : ℕ) → exists g s ≡ true → (x : Option (Outcome P)) →
      option_and_then (λ o. option_map (◌∷◌ o) (run_from (goal_meaning m g) o.position ks)) (option_map (raised m g s) x)
      ≡ option_map (beside s) (option_and_then (λ o. option_map (◌∷◌ o) (run_from m o.position ks)) x)
  onward ks rest s e None = refl
  onward ks rest s e (Some o) =
      ap (option_map (◌∷◌ (raised m g s o))) (rest (after g s (m.label o.position)) (after_exists g s e (m.label o.position)) o.position)
      ∙ beside_more s o (run_from m o.position ks)

  run_beside : (ks : List Pick) → Beside ks
  run_beside [] s e p = refl
  run_beside (k ∷ ks) s e p =
      let found = slice_get (m.outcomes p k.choice) k.number in
      ap (option_and_then (λ o. option_map (◌∷◌ o) (run_from (goal_meaning m g) o.position ks))) (sym (by_number m ok g (record { below = p; state = s }) k.choice e k.number found refl))
      ∙ onward ks (run_beside ks) s e found

  abbrev first : ℕ
  first = after g 0 (m.label m.start)

  from_start : (ks : List Pick) → run (goal_meaning m g) ks ≡ option_map (beside first) (run m ks)
  from_start ks = run_beside ks first (after_exists g 0 (first_exists g) (m.label m.start)) m.start

  lowered_beside : (s : ℕ) (os : List (Outcome P)) → map lowered (beside s os) ≡ os
  lowered_beside s [] = refl
  lowered_beside s (o ∷ os) = ap (◌∷◌ o) (lowered_beside (after g s (m.label o.position)) os)

  mapped_beside : (s : ℕ) (o : Option (List (Outcome P))) → option_map (map lowered) (option_map (beside s) o) ≡ o
  mapped_beside s None = refl
  mapped_beside s (Some os) = ap Some (lowered_beside s os)

  abbrev StatesRead : List (Outcome (GoalPosition P)) → Type 0
  StatesRead os = map (λ p. p.state) (along (goal_meaning m g) os) ≡ read g (word m (map lowered os))

  beside_states : (s : ℕ) (os : List (Outcome P)) →
      map (λ p. p.state) (map (λ o. o.position) (beside s os)) ≡ read_from g s (map m.label (map (λ o. o.position) (map lowered (beside s os))))
  beside_states s [] = refl
  beside_states s (o ∷ os) = ap (◌∷◌ (after g s (m.label o.position))) (beside_states (after g s (m.label o.position)) os)

  module _ (ks : List Pick) (os : List (Outcome (GoalPosition P))) (e : run (goal_meaning m g) ks ≡ Some os) where
    states_read : StatesRead os
    states_read =
        let below = mapped_some (beside first) (run m ks) os (sym (from_start ks) ∙ e) in
        subst StatesRead below.2 (ap (◌∷◌ first) (beside_states first below.0))

    own : AllByRecursion (λ p. owned m g p ≡ true) (along (goal_meaning m g) os)
    own = own_along (goal_meaning m g) (goal_lawful m ok g) ks os e

    state_priorities : map (goal_meaning m g).priority (along (goal_meaning m g) os) ≡ map (priority_in g) (map (λ p. p.state) (along (goal_meaning m g) os))
    state_priorities =
        map_where (λ p. owned m g p ≡ true) (goal_meaning m g).priority (priority_in g) (λ p. p.state) (λ p h. cond-true (owned m g p) (priority_in g p.state) 0 h) (along (goal_meaning m g) os) own

    labels_below : map (goal_meaning m g).label (along (goal_meaning m g) os) ≡ map m.label (map (λ p. p.below) (along (goal_meaning m g) os))
    labels_below =
        map_where (λ p. owned m g p ≡ true) (goal_meaning m g).label m.label (λ p. p.below) (λ p h. cond-true (owned m g p) (m.label p.below) 0 h) (along (goal_meaning m g) os) own

  positions_below : (os : List (Outcome (GoalPosition P))) → map (λ p. p.below) (along (goal_meaning m g) os) ≡ along m (map lowered os)
  positions_below os = ap (◌∷◌ m.start) (each os)
    where
      each : (os : List (Outcome (GoalPosition P))) → map (λ p. p.below) (map (λ o. o.position) os) ≡ map (λ o. o.position) (map lowered os)
      each [] = refl
      each (o ∷ os) = ap (◌∷◌ o.position.below) (each os)

  pub runs_over : RunsOver m g
  runs_over =
      record {
        same = λ ks. ap (option_map (map lowered)) (from_start ks) ∙ mapped_beside first (run m ks);
        states = states_read;
        priorities = λ ks os e. state_priorities ks os e ∙ ap (map (priority_in g)) (states_read ks os e);
        labels = λ ks os e. labels_below ks os e ∙ ap (map m.label) (positions_below os);
      }
