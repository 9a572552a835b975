-- A table without faults is one that is accepted in so many words, and the other way round.
use Rattle.std.proofs.Common.{◌≡◌, ℕ, ◌*◌, ◌%◌, ◌<◌, ◌≤◌, Bool, true, false, cond, not, eqb, ltb, leb, ◌⊎◌, List, [], ◌∷◌, length, is_some, is_ok, Some, None, Decides, Option, sym, refl, ◌∙◌, subst, inl, inr, ⊎_elim, arith}
use Rattle.std.specs.List.{slice_get}
use Rattle.std.proofs.lemmas.Bool.{and_parts, or_cases, or_left, or_right, not-false, not_from_true, eqb-true, eqb-false, eq-eqb, ne_eqb, ltb-true, ltb-false, lt-ltb, le-ltb, leb-true, le-leb, cases_eq, cases_lt, both_ways}
use Rattle.std.proofs.lemmas.Option.{none-some, same_Some}
use Rattle.arena.specs.Meaning.{Meaning, Lawful}
use Rattle.arena.specs.declared.moves.Outcome.{Outcome}
use Rattle.table.specs.declared.row.Row.{Row}
use Rattle.table.specs.declared.fault.Fault.{Fault}
use Rattle.table.specs.declared.fault.Fault.TheVariants.{TooManyRows, NotOwn, IllegalMove, WrongLengths}
use Rattle.table.specs.Colours.{colour_of}
use Rattle.table.specs.Rows.{StandsAt, first_row, start_row, row_after, outcomes_of}
use Rattle.table.specs.Ranks.{rank_of, keeps_for, keeps}
use Rattle.table.specs.Check.{when, numbered, verdict, is_before, is_own, place_faults, start_faults, target_faults, outcome_faults, move_faults, faults, checked}
use Rattle.table.specs.Accepts.{Accepts}
use Rattle.table.proofs.Lists.{cons_nil, append_nil, when_nil, numbered_nil, numbered_all}
use Rattle.table.proofs.Finds.{first_stands, stands_first}

-- the rule for one odd colour, in words
abbrev Falls : List ℕ → ℕ → ℕ → ℕ → ℕ → ℕ → Type 0
Falls ranks n p c s t = (c ≤ p → rank_of ranks n p t ≤ rank_of ranks n p s) × (c ≡ p → rank_of ranks n p t < rank_of ranks n p s)

cond_ways : (b x y : Bool) → cond b x y ≡ true → ((b ≡ true) × (x ≡ true)) ⊎ ((b ≡ false) × (y ≡ true))
cond_ways true x y e = inl (refl, e)
cond_ways false x y e = inr (refl, e)

pub keeps_falls : (ranks : List ℕ) (n p c s t : ℕ) → keeps_for ranks n p c s t ≡ true → Falls ranks n p c s t
keeps_falls ranks n p c s t e =
    ⊎_elim
    (λ q. let h = ltb-true p c q in (λ le. absurd (omega arith), λ eq. absurd (omega arith)))
    (λ q.
    ⊎_elim
    (λ w. let h = ltb-true _ _ w.1 in (λ _. omega arith, λ _. h))
    (λ w. let h = leb-true _ _ w.1 in (λ _. h, λ eq. absurd (eqb-false p c w.0 (sym eq))))
    (cond_ways (eqb p c) _ _ q))
    (or_cases (ltb p c) _ e)

pub falls_keeps : (ranks : List ℕ) (n p c s t : ℕ) → Falls ranks n p c s t → keeps_for ranks n p c s t ≡ true
falls_keeps ranks n p c s t f =
    ⊎_elim
    (λ (h : p < c). or_left _ _ (lt-ltb p c h))
    (λ (h : c ≤ p).
    or_right (ltb p c) (cond (eqb p c) (ltb (rank_of ranks n p t) (rank_of ranks n p s)) (leb (rank_of ranks n p t) (rank_of ranks n p s)))
    (⊎_elim
    (λ (q : p ≡ c). rw (eq-eqb p c q) (lt-ltb _ _ (f.1 (sym q))))
    (λ (q : p ≡ c → ⊥). rw (ne_eqb p c q) (le-leb _ _ (f.0 h)))
    (cases_eq p c)))
    (cases_lt p c)

pub odd : (p : ℕ) → p % 2 ≡ 1 → p ≤ 7 → (p ≡ 1) ⊎ ((p ≡ 3) ⊎ ((p ≡ 5) ⊎ (p ≡ 7)))
odd p e b =
    ⊎_elim inl
    (λ (n1 : p ≡ 1 → ⊥).
    inr
    (⊎_elim inl
    (λ (n3 : p ≡ 3 → ⊥). inr (⊎_elim inl (λ (n5 : p ≡ 5 → ⊥). inr (omega arith)) (cases_eq p 5)))
    (cases_eq p 3)))
    (cases_eq p 1)

pub keeps_odd : (ranks : List ℕ) (n c s t p : ℕ) → keeps ranks n c s t ≡ true → p % 2 ≡ 1 → p ≤ 7 → keeps_for ranks n p c s t ≡ true
keeps_odd ranks n c s t p e o b =
    let one = and_parts _ _ e in
    let three = and_parts _ _ one.1 in
    let five = and_parts _ _ three.1 in
    let seven = and_parts _ _ five.1 in
    let F : ℕ → Type 0 = λ q. keeps_for ranks n q c s t ≡ true in
    ⊎_elim (λ (x : p ≡ 1). subst F (sym x) one.0)
    (⊎_elim (λ (x : p ≡ 3). subst F (sym x) three.0)
    (⊎_elim (λ (x : p ≡ 5). subst F (sym x) five.0) (λ (x : p ≡ 7). subst F (sym x) seven.0)))
    (odd p o b)

some_value : {A : Type 0} (o : Option A) → is_some o ≡ true → (x : A) × (o ≡ Some x)
some_value None e = absurd (both_ways true (sym e) refl)
some_value (Some x) e = (x, refl)

not_before : (s t : ℕ) (o : Option ℕ) → is_before s o ≡ false → o ≡ Some t → s ≤ t
not_before s t None e h = absurd (none-some _ h)
not_before s t (Some k) e h = omega (arith, ltb-false k s e, same_Some _ _ h)

-- the five tests of the check, each without a fault
record Clean {P : Type 0} (m : Meaning P) (rows : List (Row P)) (rule : ℕ → ℕ → ℕ → Bool) (fit : Bool) : Type 0 where
  few : ltb 1024 (length rows) ≡ false
  four : not fit ≡ false
  places : numbered (place_faults m rows) 0 rows ≡ []
  first : not (is_some (start_row m rows)) ≡ false
  moves : numbered (move_faults m rows rule) 0 rows ≡ []

module _ {P : Type 0} (m : Meaning P) (rows : List (Row P)) (rule : ℕ → ℕ → ℕ → Bool) (fit : Bool) where
  clean : faults m rows rule fit ≡ [] → Clean m rows rule fit
  clean e =
      let a = append_nil (when (ltb 1024 (length rows)) TooManyRows) _ e in
      let b = append_nil (when (not fit) WrongLengths) _ a.1 in
      let c = append_nil (numbered (place_faults m rows) 0 rows) _ b.1 in
      let d = append_nil (start_faults m rows) _ c.1 in
      record { few = when_nil _ _ a.0; four = when_nil _ _ b.0; places = c.0; first = when_nil _ _ d.0; moves = d.1 }

  faultless : Clean m rows rule fit → faults m rows rule fit ≡ []
  faultless c = rw (c.few, c.four, c.places, c.first, c.moves)

module _ {P : Type 0} (m : Meaning P) (ok : Lawful m) (rows : List (Row P)) (ranks : List ℕ) where
  -- what no fault at an outcome says
  target_nil : (c s i : ℕ) (o : Option ℕ) → target_faults m rows (keeps ranks (length rows)) c s i o ≡ [] →
      (t : ℕ) × (o ≡ Some t) × (keeps ranks (length rows) c s t ≡ true)
  target_nil c s i None e = absurd (cons_nil e)
  target_nil c s i (Some t) e = (t, refl, not-false _ (when_nil _ _ e))

  module _ (c : Clean m rows (keeps ranks (length rows)) (eqb (length ranks) (4 * length rows))) where
    place : (s : ℕ) (r : Row P) → slice_get rows s ≡ Some r → (is_own m r ≡ true) × (is_before s (first_row m rows r.position r.latch) ≡ false)
    place s r e =
        let q = append_nil (when (not (is_own m r)) (NotOwn s)) _ (numbered_nil (place_faults m rows) rows c.places s r e) in
        (not-false _ (when_nil _ _ q.0), when_nil _ _ q.1)

    -- a row is the first at its position and latch
    first_here : (s : ℕ) (p : P) (l : ℕ) → StandsAt rows s p l → first_row m rows p l ≡ Some s
    first_here s p l x =
        let f = stands_first m p l ok rows s x in
        let b = (place s x.row x.there).1 in
        let e : is_before s (first_row m rows p l) ≡ false = rw (← x.position, ← x.latch) b in
        let n = not_before s f.0 (first_row m rows p l) e f.1 in
        let q : f.0 ≡ s = omega (arith, f.2) in
        rw (← q) f.1

    move : (s : ℕ) (r : Row P) → slice_get rows s ≡ Some r → (m.legal r.position r.choice ≡ true)
        × (numbered (outcome_faults m rows (keeps ranks (length rows)) s r.latch) 0 (outcomes_of m r) ≡ [])
    move s r e =
        let q = append_nil (when (not (m.legal r.position r.choice)) (IllegalMove s)) _ (numbered_nil (move_faults m rows (keeps ranks (length rows))) rows c.moves s r e) in
        (not-false _ (when_nil _ _ q.0), q.1)

    target : (s i : ℕ) (r : Row P) (o : Outcome P) → slice_get rows s ≡ Some r → slice_get (outcomes_of m r) i ≡ Some o →
        (t : ℕ) × (row_after m rows r.latch o ≡ Some t) × (keeps ranks (length rows) (colour_of r.latch o) s t ≡ true)
    target s i r o e h = target_nil (colour_of r.latch o) s i (row_after m rows r.latch o) (numbered_nil (outcome_faults m rows (keeps ranks (length rows)) s r.latch) (outcomes_of m r) (move s r e).1 i o h)

    accepts : Accepts m rows ranks
    accepts =
        record {
          few = ltb-false 1024 (length rows) c.few;
          four = eqb-true _ _ (not-false _ c.four);
          own = λ s r e.
              let q = and_parts (m.owns r.position) _ (place s r e).0 in
              let l = and_parts (leb (m.priority r.position) r.latch) _ q.1 in
              (q.0, leb-true _ _ l.0, leb-true _ _ l.1);
          apart = λ s t p l x y. same_Some _ _ (sym (first_here s p l x) ∙ first_here t p l y);
          starts = let f = some_value (start_row m rows) (not-false _ c.first) in (f.0, first_stands m _ _ ok rows f.0 f.1);
          legal = λ s r e. (move s r e).0;
          leads = λ s i r o e h. let f = target s i r o e h in (f.0, first_stands m _ _ ok rows f.0 f.1);
          falls = λ s i t p r o e h x od b.
              let f = target s i r o e h in
              let q : f.0 ≡ t = same_Some _ _ (sym f.1 ∙ first_here t _ _ x) in
              let k : keeps ranks (length rows) (colour_of r.latch o) s t ≡ true = rw (← q) f.2 in
              keeps_falls ranks (length rows) p _ s t (keeps_odd ranks (length rows) _ s t p k od b);
        }

  module _ (a : Accepts m rows ranks) where
    unique : (s : ℕ) (r : Row P) → slice_get rows s ≡ Some r → (o : Option ℕ) → first_row m rows r.position r.latch ≡ o → is_before s o ≡ false
    unique s r e None q = refl
    unique s r e (Some t) q =
        let here : StandsAt rows s r.position r.latch = record { row = r; there = e; position = refl; latch = refl } in
        let same = a.apart t s _ _ (first_stands m _ _ ok rows t q) here in
        le-ltb t s (omega arith)

    no_place : (s : ℕ) (r : Row P) → slice_get rows s ≡ Some r → place_faults m rows s r ≡ []
    no_place s r e =
        let q = a.own s r e in
        rw (q.0, le-leb _ _ q.1, le-leb _ _ q.2, unique s r e _ refl)

    no_target : (s i : ℕ) (r : Row P) (o : Outcome P) → slice_get rows s ≡ Some r → slice_get (outcomes_of m r) i ≡ Some o →
        outcome_faults m rows (keeps ranks (length rows)) s r.latch i o ≡ []
    no_target s i r o e h =
        let x = a.leads s i r o e h in
        let f = stands_first m _ _ ok rows x.0 x.1 in
        let falls : (p : ℕ) → p % 2 ≡ 1 → p ≤ 7 → keeps_for ranks (length rows) p (colour_of r.latch o) s f.0 ≡ true =
        λ p od b. falls_keeps ranks (length rows) p _ s f.0 (a.falls s i f.0 p r o e h (first_stands m _ _ ok rows f.0 f.1) od b) in
        rw (f.1, falls 1 refl (omega arith), falls 3 refl (omega arith), falls 5 refl (omega arith), falls 7 refl (omega arith))

    no_move : (s : ℕ) (r : Row P) → slice_get rows s ≡ Some r → move_faults m rows (keeps ranks (length rows)) s r ≡ []
    no_move s r e =
        rw (a.legal s r e, numbered_all (outcome_faults m rows (keeps ranks (length rows)) s r.latch) (outcomes_of m r) (λ i o h. no_target s i r o e h))

    cleaned : Clean m rows (keeps ranks (length rows)) (eqb (length ranks) (4 * length rows))
    cleaned =
        let f = stands_first m _ _ ok rows a.starts.0 a.starts.1 in
        record {
          few = le-ltb 1024 (length rows) a.few;
          four = not_from_true _ (eq-eqb _ _ a.four);
          places = numbered_all (place_faults m rows) rows no_place;
          first = rw f.1;
          moves = numbered_all (move_faults m rows (keeps ranks (length rows))) rows no_move;
        }

verdict_nil : {R : Type 0} (r : R) (fs : List Fault) → is_ok (verdict r fs) ≡ true → fs ≡ []
verdict_nil r [] e = refl
verdict_nil r (f ∷ fs) e = absurd (both_ways true (sym e) refl)

-- The check accepts exactly the tables that are accepted in words.
pub acceptance : {P : Type 0} (m : Meaning P) → Lawful m → (rows : List (Row P)) (ranks : List ℕ) → Decides (is_ok (checked m rows ranks)) (Accepts m rows ranks)
acceptance m ok rows ranks = (
  λ e. accepts m ok rows ranks (clean m rows (keeps ranks (length rows)) (eqb (length ranks) (4 * length rows)) (verdict_nil _ _ e)),
  λ a. rw (faultless m rows (keeps ranks (length rows)) (eqb (length ranks) (4 * length rows)) (cleaned m ok rows ranks a)),
)
