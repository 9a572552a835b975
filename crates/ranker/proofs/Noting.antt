-- Noting the arc of one more passage.
use Rattle.std.proofs.Common.{◌≡◌, ℕ, ◌+◌, ◌*◌, ◌^◌, ◌<◌, ◌≤◌, true, false, not, eqb, cond, List, [], ◌∷◌, ◌++◌, length, get_or, set, replicate, count_by, Some, None, Option, sym, refl, ap, ◌∙◌, subst, ⊎_elim, arith}
use Rattle.std.specs.List.{ContainsAt, AllByRecursion}
use Rattle.std.proofs.lemmas.List.{length-set, length_push, length-replicate, get_or-set_same, get_or-set_other, get_or_push, get_or_append_left, get_or-replicate, get_or_past}
use Rattle.std.proofs.ByRecursion.{All-push, All-weaker, all-has, has_push, has_push_cases, has_append_left}
use Rattle.std.proofs.lemmas.List.Sums.{sum_by-set, count_by-le-length}
use Rattle.std.specs.Option.{option_eq}
use Rattle.std.proofs.lemmas.Bool.{cases_eq, cases_lt, eq-eqb, ne_eqb, eqb-true, not-false, true≢false}
use Rattle.std.proofs.lemmas.Option.{none-some, same_Some}
use Rattle.plan.specs.declared.passage.Passage.{Passage}
use Rattle.plan.specs.Passages.{UpTo, Next}
use Rattle.ranker.specs.Arcs.{arc_at}
use Rattle.ranker.specs.Notes.{key_of, Proper, Stands, is_of, Noted}

-- a stamp of its own row, and any other
of_same : (s : ℕ) → is_of s (Some s) ≡ true
of_same s = eq-eqb s s refl

of_other : (s : ℕ) (stamp : Option ℕ) → (stamp ≡ Some s → ⊥) → is_of s stamp ≡ false
of_other s None new = refl
of_other s (Some v) new = ne_eqb v s (λ e. new (ap Some e))

-- stamps that `!=` tells apart, and those that it does not
pub differs : (a : Option ℕ) (v : ℕ) → true ≡ not (option_eq eqb a (Some v)) → a ≡ Some v → ⊥
differs None v ne e = none-some _ e
differs (Some u) v ne e = true≢false (ne ∙ ap not (eq-eqb u v (same_Some _ _ e)))

pub agrees : (a : Option ℕ) (v : ℕ) → false ≡ not (option_eq eqb a (Some v)) → a ≡ Some v
agrees None v e = absurd (true≢false (sym e))
agrees (Some u) v e = ap Some (eqb-true u v (not-false _ (sym e)))

-- at first there are none
pub noted_none : (n : ℕ) (stamps : List (Option ℕ)) → n ≤ 1024 → stamps ≡ replicate 8192 None → Noted n [] [] stamps
noted_none n stamps few e =
    let empty : (key : ℕ) → get_or stamps key None ≡ None = λ key.
    ap (λ (xs : List (Option ℕ)). get_or xs key None) e
    ∙ ⊎_elim (λ (h : key < 8192). get_or-replicate 8192 key None None h) (λ (h : 8192 ≤ key). get_or_past (replicate 8192 None) key None (let q : length (replicate {A = Option ℕ} 8192 None) ≡ 8192 = length-replicate {A = Option ℕ} 8192 None in omega arith)) (cases_lt key 8192) in
    record {
      few = few;
      keys = ap length e ∙ length-replicate {A = Option ℕ} 8192 None;
      proper = tt;
      true = λ k b. absurd (omega arith);
      whole = λ x h. absurd (omega (arith, h.1));
      stamped = λ key v q. absurd (none-some _ (sym (empty key) ∙ q));
      spare = λ s _. omega arith;
    }

-- there are never too many
pub noted_few : (n : ℕ) (before : List Passage) (arcs : List Passage) (stamps : List (Option ℕ)) → Noted n before arcs stamps → length arcs ≤ 2 ^ 24
noted_few n before arcs stamps was =
    let up : UpTo n before = All-weaker (Proper n) (λ x. x.from ≤ n) (λ x p. omega (arith, p.from)) before was.proper in
    omega (arith, was.spare n up, count_by-le-length (is_of n) stamps, was.keys, was.few)

-- the row of the last passage
last_from : (s : ℕ) (before : List Passage) (x : Passage) → UpTo s (before ++ x ∷ []) → UpTo s before × (x.from ≤ s)
last_from s [] x up = (tt, up.0)
last_from s (y ∷ before) x up = let r = last_from s before x up.1 in ((up.0, r.0), r.1)

module _ (n : ℕ) (before : List Passage) (arcs : List Passage) (stamps : List (Option ℕ)) (x : Passage) (was : Noted n before arcs stamps) (next : Next n before x) where
  proper : AllByRecursion (Proper n) (before ++ x ∷ [])
  proper = All-push (Proper n) before x was.proper (record { from = next.from; to = next.to; colour = next.colour })

  -- more arcs than a row can have do not come together
  within : (s : ℕ) → x.from < s → length arcs ≤ 8192 * s
  within s lt = omega (arith, was.spare x.from next.last, count_by-le-length (is_of x.from) stamps, was.keys)

  -- a passage whose arc is there
  module _ (there : get_or stamps (key_of x.to x.colour) None ≡ Some x.from) where
    stands : (k : ℕ) × Stands arcs x k
    stands =
        let q = was.stamped (key_of x.to x.colour) x.from there in
        let a = q.1 in
        let p = all-has (Proper n) before (arc_at arcs q.0) was.proper (was.true q.0 a.there) in
        (q.0, record { there = a.there; row = a.row; colour = omega (arith, a.keyed, p.colour, next.colour); to = omega (arith, a.keyed, p.colour, next.colour) })

    pub noted_same : Noted n (before ++ x ∷ []) arcs stamps
    noted_same =
        record {
          few = was.few;
          keys = was.keys;
          proper = proper;
          true = λ k b. has_append_left before (x ∷ []) (arc_at arcs k) (was.true k b);
          whole = λ y h.
              ⊎_elim
              (λ (o : ContainsAt before y). was.whole y o)
              (λ (e : x ≡ y). let F : Passage → Type 0 = λ z. (k : ℕ) × Stands arcs z k in subst F e stands)
              (has_push_cases before x y h);
          stamped = was.stamped;
          spare = λ s up. was.spare s (last_from s before x up).0;
        }

  -- one whose arc is not
  module _ (new : get_or stamps (key_of x.to x.colour) None ≡ Some x.from → ⊥) where
    abbrev arcs' : List Passage
    arcs' = arcs ++ x ∷ []

    abbrev stamps' : List (Option ℕ)
    stamps' = set stamps (key_of x.to x.colour) (Some x.from)

    key_below : key_of x.to x.colour < length stamps
    key_below = omega (arith, was.keys, was.few, next.to, next.colour)

    old : (k : ℕ) → k < length arcs → arc_at arcs' k ≡ arc_at arcs k
    old k b = get_or_append_left arcs (x ∷ []) _ k b

    added : arc_at arcs' (length arcs) ≡ x
    added = get_or_push arcs x _ (length arcs) refl

    counted : count_by (is_of x.from) stamps' ≡ count_by (is_of x.from) stamps + 1
    counted =
        let f : Option ℕ → ℕ = λ v. cond (is_of x.from v) 1 0 in
        let zero : f (get_or stamps (key_of x.to x.colour) None) ≡ 0 = rw (of_other x.from (get_or stamps (key_of x.to x.colour) None) new) in
        let one : f (Some x.from) ≡ 1 = rw (of_same x.from) in
        omega (arith, sum_by-set f stamps (key_of x.to x.colour) (Some x.from) None key_below)

    -- there is room for it
    pub room : length arcs < 8388608
    room =
        omega (arith, counted, was.spare x.from next.last, count_by-le-length (is_of x.from) stamps', length-set stamps (key_of x.to x.colour) (Some x.from), was.keys, next.from, was.few)

    pub noted_more : Noted n (before ++ x ∷ []) arcs' stamps'
    noted_more =
        record {
          few = was.few;
          keys = length-set stamps (key_of x.to x.colour) (Some x.from) ∙ was.keys;
          proper = proper;
          true = λ k b.
              ⊎_elim
              (λ (h : k < length arcs). rw (old k h) (has_append_left before (x ∷ []) (arc_at arcs k) (was.true k h)))
              (λ (h : length arcs ≤ k).
              let e : length arcs ≡ k = omega (arith, length_push arcs x) in
              let F : ℕ → Type 0 = λ j. ContainsAt (before ++ x ∷ []) (arc_at arcs' j) in
              subst F e (rw added (has_push before x)))
              (cases_lt k (length arcs));
          whole = λ y h.
              ⊎_elim
              (λ (o : ContainsAt before y).
              let w = was.whole y o in
              let e = old w.0 w.1.there in
              (w.0, record { there = omega (arith, length_push arcs x, w.1.there); row = ap (λ (a : Passage). a.from) e ∙ w.1.row; colour = ap (λ (a : Passage). a.colour) e ∙ w.1.colour; to = ap (λ (a : Passage). a.to) e ∙ w.1.to }))
              (λ (e : x ≡ y).
              let F : Passage → Type 0 = λ z. (k : ℕ) × Stands arcs' z k in
              subst F e
              (length arcs, record { there = omega (arith, length_push arcs x); row = ap (λ (a : Passage). a.from) added; colour = ap (λ (a : Passage). a.colour) added; to = ap (λ (a : Passage). a.to) added }))
              (has_push_cases before x y h);
          stamped = λ key v q.
              ⊎_elim
              (λ (e : key ≡ key_of x.to x.colour).
              let v-is : v ≡ x.from = same_Some _ _ (sym q ∙ ap (λ (j : ℕ). get_or stamps' j None) e ∙ get_or-set_same stamps (key_of x.to x.colour) (Some x.from) None key_below) in
              (length arcs, record { there = omega (arith, length_push arcs x); row = omega (arith, ap (λ (a : Passage). a.from) added); keyed = omega (arith, ap (λ (a : Passage). a.to) added, ap (λ (a : Passage). a.colour) added) }))
              (λ (e : key ≡ key_of x.to x.colour → ⊥).
              let w = was.stamped key v (sym (get_or-set_other stamps (key_of x.to x.colour) key (Some x.from) None e) ∙ q) in
              let o = old w.0 w.1.there in
              (w.0, record { there = omega (arith, length_push arcs x, w.1.there); row = ap (λ (a : Passage). a.from) o ∙ w.1.row; keyed = omega (arith, ap (λ (a : Passage). a.to) o, ap (λ (a : Passage). a.colour) o, w.1.keyed) }))
              (cases_eq key (key_of x.to x.colour));
          spare = λ s up.
              let l = last_from s before x up in
              ⊎_elim
              (λ (e : s ≡ x.from).
              let F : ℕ → Type 0 = λ t. length arcs' ≤ 8192 * t + count_by (is_of t) stamps' in
              subst F (sym e) (omega (arith, counted, length_push arcs x, was.spare x.from next.last)))
              (λ (e : s ≡ x.from → ⊥).
              omega (arith, length_push arcs x, counted, was.spare x.from next.last, count_by-le-length (is_of x.from) stamps', length-set stamps (key_of x.to x.colour) (Some x.from), was.keys, l.1))
              (cases_eq s x.from);
        }
