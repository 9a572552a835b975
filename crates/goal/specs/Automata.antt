-- What a goal's form says of its states.
use Rattle.std.specs.Prelude.{◌≡◌, ℕ, ◌<◌, ◌≤◌, true, ◌&&◌, length, nat_le, nat_lt, slice_index, slice_index_or, Some}
use Rattle.std.proofs.Common.{sym, subst, ⊎_elim, arith}
use Rattle.std.specs.List.{list_all}
use Rattle.std.specs.Option.{option_map_or}
use Rattle.std.proofs.lemmas.List.{get_or-take, get_or_past}
use Rattle.std.proofs.lemmas.List.Elements.{All-get_or}
use Rattle.std.proofs.lemmas.List.Sums.{AllPass-from_list_all}
use Rattle.std.proofs.lemmas.Option.{slice_get_cases}
use Rattle.std.proofs.lemmas.Bool.{and_parts, ltb-true, leb-true, lt-ltb, cases_lt}
use Rattle.goal.specs.declared.goal.Goal.{Goal}
use Rattle.goal.specs.declared.state.GoalState.{GoalState}
use Rattle.goal.specs.Form.{fit}
use Rattle.goal.specs.Automaton.{states_of, state_of, exists, priority_in, after}

module _ (g : Goal) where
  abbrev many : ℕ
  many = length (states_of g)

  some_state : 0 < many
  some_state = ltb-true 0 many (and_parts (nat_lt 0 many) (nat_le many 16 && list_all (fit many) (states_of g)) g.formed).0

  states_fit : list_all (fit many) (states_of g) ≡ true
  states_fit =
      (and_parts (nat_le many 16) (list_all (fit many) (states_of g))
      (and_parts (nat_lt 0 many) (nat_le many 16 && list_all (fit many) (states_of g)) g.formed).1
      ).1

  -- state 0 exists
  pub first_exists : exists g 0 ≡ true
  first_exists = lt-ltb 0 many some_state

  module _ (s : ℕ) (e : exists g s ≡ true) where
    within : s < many
    within = ltb-true s many e

    -- a state that exists stands in the array at its number
    pub state_stands : (d : GoalState) → slice_index_or (states_of g) s d ≡ slice_index_or g.states s d
    state_stands d = get_or-take g.count g.states s d (omega (arith, within, g.counted))

    -- and is fit
    there : (x : GoalState) × (state_of g s ≡ Some x) × (fit many x ≡ true)
    there =
        ⊎_elim
        (λ f. (f.0, f.2, subst (λ x. fit many x ≡ true) f.3 (All-get_or (λ x. fit many x ≡ true) (states_of g) s f.0 f.1 (AllPass-from_list_all (fit many) (states_of g) states_fit))))
        (λ f. absurd (omega (arith, f.0, within)))
        (slice_get_cases (states_of g) s).1

    abbrev here : GoalState
    here = there.0

    fit_parts : (nat_le here.priority 5 ≡ true) × (list_all (λ t. nat_lt t many) here.next ≡ true)
    fit_parts = and_parts (nat_le here.priority 5) (list_all (λ t. nat_lt t many) here.next) there.2

    pub priority_low : priority_in g s ≤ 5
    priority_low = subst (λ o. option_map_or (λ (x : GoalState). x.priority) o 0 ≤ 5) (sym there.1) (leb-true here.priority 5 fit_parts.0)

    -- and what follows it exists, on any label
    pub after_exists : (l : ℕ) → exists g (after g s l) ≡ true
    after_exists l =
        subst (λ o. exists g (option_map_or (λ (x : GoalState). slice_index x.next l) o 0) ≡ true) (sym there.1)
        (⊎_elim
        (λ h. All-get_or (λ t. nat_lt t many ≡ true) here.next l 0 h (AllPass-from_list_all (λ t. nat_lt t many) here.next fit_parts.1))
        (λ h. subst (λ t. exists g t ≡ true) (sym (get_or_past here.next l 0 h)) first_exists)
        (cases_lt l (length here.next)))
