-- A goal over a lawful arena is lawful.
use Rattle.std.specs.Prelude.{◌≡◌, ℕ, ◌≤◌, Bool, true, false, cond, ◌&&◌, List, [], map, length, Option, ◌==◌, refl}
use Rattle.std.proofs.Common.{sym, ap, subst, ◌∙◌, ⊎_elim, arith}
use Rattle.std.specs.List.{slice_get, AllByRecursion}
use Rattle.std.specs.Option.{option_map}
use Rattle.std.proofs.ByRecursion.{All-map, All-weaker}
use Rattle.std.proofs.lemmas.List.{length-map}
use Rattle.std.proofs.lemmas.Option.{slice_get-map}
use Rattle.std.proofs.lemmas.Bool.{and_parts, and_from, and_cases, both_ways, cases_Bool, cond-true, cond-false, cond_both, eqb-true, eq-eqb}
use Rattle.arena.specs.Meaning.{Meaning, Lawful}
use Rattle.arena.specs.declared.moves.Move.{Move}
use Rattle.arena.specs.declared.moves.Outcome.{Outcome}
use Rattle.goal.specs.declared.goal.Goal.{Goal}
use Rattle.goal.specs.declared.product.GoalPosition.{GoalPosition}
use Rattle.goal.specs.Automaton.{exists, priority_in}
use Rattle.goal.specs.Product.{raised, owned, goal_meaning}
use Rattle.goal.specs.Automata.{first_exists, after_exists, priority_low}

-- a second test makes no difference where it fails only if both answers are the same
by_first : {X : Type 0} (a b : Bool) (x y : X) → (b ≡ false → x ≡ y) → cond (a && b) x y ≡ cond a x y
by_first true true x y h = refl
by_first true false x y h = sym (h refl)
by_first false b x y h = refl

module _ {P : Type 0} (m : Meaning P) (ok : Lawful m) (g : Goal) where
  abbrev lifted : GoalPosition P → Move → List (Outcome (GoalPosition P))
  lifted p v = map (raised m g p.state) (m.outcomes p.below v)

  -- at a position below that is not own, no move has an outcome
  stuck : (p : P) (v : Move) → m.owns p ≡ false → m.outcomes p v ≡ []
  stuck p v e = ⊎_elim (λ h. absurd (both_ways (m.owns p) e (ok.stands p v h))) (ok.idle p v) (cases_Bool (m.legal p v))

  -- so only the state is to be asked
  by_state : (p : GoalPosition P) (v : Move) → (goal_meaning m g).outcomes p v ≡ cond (exists g p.state) (lifted p v) []
  by_state p v = by_first (exists g p.state) (m.owns p.below) (lifted p v) [] (λ e. ap (map (raised m g p.state)) (stuck p.below v e))

  module _ (p : GoalPosition P) (v : Move) (e : exists g p.state ≡ true) where
    opened : (goal_meaning m g).outcomes p v ≡ lifted p v
    opened = by_state p v ∙ cond-true (exists g p.state) (lifted p v) [] e

    pub as_many : length ((goal_meaning m g).outcomes p v) ≡ length (m.outcomes p.below v)
    as_many = ap length opened ∙ length-map (m.outcomes p.below v) (raised m g p.state)

    pub by_number : (i : ℕ) (o : Option (Outcome P)) → slice_get (m.outcomes p.below v) i ≡ o → option_map (raised m g p.state) o ≡ slice_get ((goal_meaning m g).outcomes p v) i
    by_number i o e = rw (← e, opened) (sym (slice_get-map (raised m g p.state) (m.outcomes p.below v) i))

  pub known_state : (p : GoalPosition P) → owned m g p ≡ true → exists g p.state ≡ true
  known_state p e = (and_parts (exists g p.state) (m.owns p.below) e).0

  -- a position below that is own is so with any state that exists, after its label too
  pub moved_on : (s : ℕ) → exists g s ≡ true → (o : Outcome P) → m.owns o.position ≡ true → owned m g (raised m g s o).position ≡ true
  moved_on s e o h = and_from (exists g _) (m.owns o.position) (after_exists g s e (m.label o.position)) h

  module _ (p : GoalPosition P) (v : Move) (e : (goal_meaning m g).legal p v ≡ true) where
    abbrev legally : (owned m g p ≡ true) × (m.legal p.below v ≡ true)
    legally = and_parts (owned m g p) (m.legal p.below v) e

    here : exists g p.state ≡ true
    here = known_state p legally.0

    within : (1 ≤ length ((goal_meaning m g).outcomes p v)) × (length ((goal_meaning m g).outcomes p v) ≤ 65535)
    within = let c = ok.counts p.below v legally.1 in (omega (arith, as_many p v here), omega (arith, as_many p v here))

    all_own : AllByRecursion (λ o. owned m g o.position ≡ true) ((goal_meaning m g).outcomes p v)
    all_own =
        subst (AllByRecursion (λ o. owned m g o.position ≡ true)) (sym (opened p v here))
        (All-map (λ o. owned m g o.position ≡ true) (raised m g p.state) (m.outcomes p.below v)
        (All-weaker (λ o. m.owns o.position ≡ true) (λ o. owned m g (raised m g p.state o).position ≡ true) (moved_on p.state here) (m.outcomes p.below v)
        (ok.leads p.below v legally.1)))

  -- positions are the same when both parts are
  same_parts : (p q : GoalPosition P) → (goal_meaning m g).same p q ≡ true → p ≡ q
  same_parts p q e =
      let h = and_parts (p.state == q.state) (m.same p.below q.below) e in
      let a = (ok.decides p.below q.below).0 h.1 in
      let b = eqb-true p.state q.state h.0 in
      λ i. record { below = a i; state = b i }

  parts_same : (p q : GoalPosition P) → p ≡ q → (goal_meaning m g).same p q ≡ true
  parts_same p q e =
      and_from (p.state == q.state) (m.same p.below q.below) (eq-eqb p.state q.state (ap (λ (x : GoalPosition P). x.state) e))
      ((ok.decides p.below q.below).1 (ap (λ (x : GoalPosition P). x.below) e))

  pub goal_lawful : Lawful (goal_meaning m g)
  goal_lawful =
      record {
        decides = λ p q. (same_parts p q, parts_same p q);
        starts = and_from (exists g _) (m.owns m.start) (after_exists g 0 (first_exists g) (m.label m.start)) ok.starts;
        stands = λ p v e. (legally p v e).0;
        waits = λ p v e. ok.waits p.below v (legally p v e).1;
        counts = within;
        leads = all_own;
        idle = λ p v e.
            cond_both (owned m g p) (lifted p v) [] (λ os. os ≡ [])
            (λ o. ⊎_elim (λ f. absurd (both_ways (owned m g p) f o)) (λ f. ap (map (raised m g p.state)) (ok.idle p.below v f)) (and_cases (owned m g p) (m.legal p.below v) e))
            (λ _. refl);
        ranges = λ p. (
          cond_both (owned m g p) (priority_in g p.state) 0 (λ n. n ≤ 5) (λ o. priority_low g p.state (known_state p o)) (λ _. omega arith),
          cond_both (owned m g p) (m.label p.below) 0 (λ n. n ≤ 31) (λ _. (ok.ranges p.below).1) (λ _. omega arith),
        );
        strange = λ p e. (cond-false (owned m g p) (priority_in g p.state) 0 e, cond-false (owned m g p) (m.label p.below) 0 e);
      }
