-- Rows in buckets: an index as it is made, and as a row is looked up in it.
use Rattle.std.proofs.Common.{◌≡◌, ℕ, zero, suc, ◌+◌, ◌-◌, ◌<◌, ◌≤◌, Bool, true, false, cond, eqb, List, [], ◌∷◌, ◌++◌, length, get_or, set, replicate, drop, Some, None, Option, unwrap_or, sym, refl, ap, ◌∙◌, subst, inl, inr, ⊎_elim, add-one, arith}
use Rattle.std.specs.List.{slice_get, position_from, push}
use Rattle.std.specs.Option.{option_map}
use Rattle.std.proofs.lemmas.List.{get_or-replicate, get_or-set_same, get_or-set_other, at_drop_more, at_drop_all, append_assoc, length_push}
use Rattle.std.proofs.lemmas.Option.{get_or_from_slice_get, slice_get_cases, none-some, same_Some, slice_get_within}
use Rattle.std.proofs.lemmas.Bool.{and_parts, eqb-true, eq-eqb, ne_eqb, cases_eq, cases_Bool, both_ways}
use Rattle.arena.specs.Meaning.{Meaning, Lawful}
use Rattle.table.specs.declared.row.Row.{Row}
use Rattle.table.specs.Rows.{is_for, first_row}
use Rattle.plan.specs.Index.{bucket_of, bucket_at, next_in, Indexes}

-- a search from row s on, one row at a time
module _ {P : Type 0} (test : Row P → Bool) (rows : List (Row P)) where
  abbrev from : ℕ → Option ℕ
  from s = position_from test s (drop s rows)

  from_step : (s : ℕ) (r : Row P) → slice_get rows s ≡ Some r → from s ≡ cond (test r) (Some s) (from (suc s))
  from_step s r e =
      at_drop_more (position_from test s) rows s r (slice_get_within rows s r e)
      ∙ ap (λ q. cond (test q) (Some s) (position_from test (s + 1) (drop (s + 1) rows))) (get_or_from_slice_get rows s r r e)
      ∙ rw add-one

  from_end : (s : ℕ) → length rows ≤ s → from s ≡ None
  from_end s h = at_drop_all (position_from test s) rows s h

-- the first row of a place is found by such a search
module _ {P : Type 0} (m : Meaning P) (p : P) (l : ℕ) where
  first_from : (s : ℕ) (rows : List (Row P)) → option_map (λ i. s + i) (first_row m rows p l) ≡ position_from (is_for m p l) s rows
  first_from s [] = refl
  first_from s (r ∷ rows) = by (is_for m p l r) (first_row m rows p l) (first_from (s + 1) rows)
    where
      by : (b : Bool) (o : Option ℕ) → option_map (λ i. (s + 1) + i) o ≡ position_from (is_for m p l) (s + 1) rows →
          option_map (λ i. s + i) (cond b (Some 0) (option_map suc o)) ≡ cond b (Some s) (position_from (is_for m p l) (s + 1) rows)
      by true o e = ap Some (omega arith)
      by false None e = e
      by false (Some i) e = ap Some (omega arith) ∙ e

  first_searched : (rows : List (Row P)) → first_row m rows p l ≡ from (is_for m p l) rows 0
  first_searched rows = same (first_row m rows p l) ∙ first_from 0 rows
    where
      same : (o : Option ℕ) → o ≡ option_map (λ i. 0 + i) o
      same None = refl
      same (Some i) = ap Some (omega arith)

module _ {P : Type 0} (m : Meaning P) (rows : List (Row P)) where
  abbrev in_it : ℕ → Row P → Bool
  in_it b r = eqb (bucket_at m r) b

  -- before any row is entered
  pub index_none : (links : List (Option ℕ)) → Indexes m rows (length rows) (replicate 1021 None) links
  index_none links = (
    λ b h. get_or-replicate 1021 b None None h ∙ sym (from_end (in_it b) rows (length rows) (omega arith)),
    λ k r a e. absurd (omega (arith, slice_get_within rows k r e)),
  )

  -- with row s entered before those after it
  pub index_more : (s b : ℕ) (r : Row P) (heads links : List (Option ℕ)) → slice_get rows s ≡ Some r → b ≡ bucket_at m r → length rows ≤ 1024 →
      length heads ≡ 1021 → length links ≡ 1024 →
      Indexes m rows (suc s) heads links → Indexes m rows s (set heads b (Some s)) (set links s (get_or heads b None))
  index_more s b r heads links e q few wide long x = (firsts, nexts)
    where
      inside : b < 1021
      inside = rw q (omega arith)

      firsts : (a : ℕ) → a < 1021 → get_or (set heads b (Some s)) a None ≡ next_in m rows a s
      firsts a h =
          ⊎_elim
          (λ (i : a ≡ b).
          rw i
          (get_or-set_same heads b (Some s) None (omega arith) ∙ sym (from_step (in_it b) rows s r e ∙ ap (λ t. cond t (Some s) (next_in m rows b (suc s))) (eq-eqb _ _ (sym q)))))
          (λ (i : a ≡ b → ⊥).
          get_or-set_other heads b a (Some s) None i
          ∙ x.0 a h
          ∙ sym (from_step (in_it a) rows s r e ∙ ap (λ t. cond t (Some s) (next_in m rows a (suc s))) (ne_eqb _ _ (λ f. i (sym f ∙ sym q)))))
          (cases_eq a b)

      nexts : (k : ℕ) (t : Row P) → s ≤ k → slice_get rows k ≡ Some t → get_or (set links s (get_or heads b None)) k None ≡ next_in m rows (bucket_at m t) (suc k)
      nexts k t a h =
          ⊎_elim
          (λ (i : k ≡ s).
          let o : r ≡ t = same_Some _ _ (sym e ∙ (rw (← i) h)) in
          rw (i, ← o, ← q) (get_or-set_same links s _ None (omega (arith, slice_get_within rows s r e)) ∙ x.0 b inside))
          (λ (i : k ≡ s → ⊥). get_or-set_other links s k _ None i ∙ x.1 k t (omega arith) h)
          (cases_eq k s)

  -- a row is found from a place on just as the rows of its bucket are
  module _ (ok : Lawful m) (p : P) (l : ℕ) where
    abbrev sought : ℕ → Option ℕ
    sought = from (is_for m p l) rows

    in_bucket : (r : Row P) → is_for m p l r ≡ true → in_it (bucket_of m p l) r ≡ true
    in_bucket r h =
        let f = and_parts (eqb r.latch l) (m.same r.position p) h in
        let q = (ok.decides r.position p).0 f.1 in
        eq-eqb _ _ (rw (q, eqb-true r.latch l f.0))

    -- How far a look has come: the next row to look at is the next of the bucket from some row on, and no row before that
    -- is the one.
    pub record Sought (next : Option ℕ) : Type 0 where
      pub at : ℕ
      pub inside : at ≤ length rows
      pub next_is : next ≡ next_in m rows (bucket_of m p l) at
      pub all : first_row m rows p l ≡ sought at

    pub look_first : (heads links : List (Option ℕ)) → Indexes m rows 0 heads links → Sought (get_or heads (bucket_of m p l) None)
    look_first heads links x = record { at = 0; inside = omega arith; next_is = x.0 (bucket_of m p l) (omega arith); all = first_searched m p l rows }

    -- the row that is the next of the bucket from row s on
    record Found (s t : ℕ) : Type 0 where
      row : Row P
      there : slice_get rows t ≡ Some row
      further : s ≤ t
      inside : in_it (bucket_of m p l) row ≡ true
      all : sought s ≡ cond (is_for m p l row) (Some t) (sought (suc t))

    -- a row of another bucket is not the one
    pass : (s : ℕ) (r : Row P) → slice_get rows s ≡ Some r → in_it (bucket_of m p l) r ≡ false → sought s ≡ sought (suc s)
    pass s r e h =
        from_step (is_for m p l) rows s r e
        ∙ ap (λ t. cond t (Some s) (sought (suc s)))
        (⊎_elim (λ (f : is_for m p l r ≡ true). absurd (both_ways _ h (in_bucket r f))) (λ (f : is_for m p l r ≡ false). f) (cases_Bool (is_for m p l r)))

    here : (s t : ℕ) (r : Row P) → slice_get rows s ≡ Some r → in_it (bucket_of m p l) r ≡ true → s ≡ t → Found s t
    here s t r e h i =
        let F : ℕ → Type 0 = λ t. Found s t in
        subst F i (record { row = r; there = e; further = omega arith; inside = h; all = from_step (is_for m p l) rows s r e })

    later : (s t : ℕ) (r : Row P) → slice_get rows s ≡ Some r → in_it (bucket_of m p l) r ≡ false → Found (suc s) t → Found s t
    later s t r e h f = record { row = f.row; there = f.there; further = omega (arith, f.further); inside = f.inside; all = pass s r e h ∙ f.all }

    row_at : (s n : ℕ) → s + suc n ≡ length rows → (r : Row P) × (slice_get rows s ≡ Some r)
    row_at s n e = elim (slice_get_cases rows s).1 [ inl x ↦ (x.0, x.2) | inr x ↦ absurd (omega (arith, x.0)) ]

    -- the bucket's search, one row further
    turn : (s : ℕ) (r : Row P) (b : Bool) → slice_get rows s ≡ Some r → in_it (bucket_of m p l) r ≡ b →
        next_in m rows (bucket_of m p l) s ≡ cond b (Some s) (next_in m rows (bucket_of m p l) (suc s))
    turn s r b e i = from_step (in_it (bucket_of m p l)) rows s r e ∙ ap (λ b. cond b (Some s) (next_in m rows (bucket_of m p l) (suc s))) i

    found : (n s t : ℕ) → s + n ≡ length rows → next_in m rows (bucket_of m p l) s ≡ Some t → Found s t
    found zero s t e h = absurd (none-some _ (sym (from_end (in_it (bucket_of m p l)) rows s (omega arith)) ∙ h))
    found (suc n) s t e h =
        let x = row_at s n e in
        ⊎_elim
        (λ (i : in_it (bucket_of m p l) x.0 ≡ true). here s t x.0 x.1 i (same_Some _ _ (sym (turn s x.0 true x.1 i) ∙ h)))
        (λ (i : in_it (bucket_of m p l) x.0 ≡ false). later s t x.0 x.1 i (found n (suc s) t (omega arith) (sym (turn s x.0 false x.1 i) ∙ h)))
        (cases_Bool (in_it (bucket_of m p l) x.0))

    nothing : (n s : ℕ) → s + n ≡ length rows → next_in m rows (bucket_of m p l) s ≡ None → sought s ≡ None
    nothing zero s e h = from_end (is_for m p l) rows s (omega arith)
    nothing (suc n) s e h =
        let x = row_at s n e in
        ⊎_elim
        (λ (i : in_it (bucket_of m p l) x.0 ≡ true). absurd (none-some _ (sym h ∙ turn s x.0 true x.1 i)))
        (λ (i : in_it (bucket_of m p l) x.0 ≡ false). pass s x.0 x.1 i ∙ nothing n (suc s) (omega arith) (sym (turn s x.0 false x.1 i) ∙ h))
        (cases_Bool (in_it (bucket_of m p l) x.0))

    module _ (t : ℕ) (z : Sought (Some t)) where
      at_hand : Found z.at t
      at_hand = found (length rows - z.at) z.at t (omega (arith, z.inside)) (sym z.next_is)

      pub look_within : t < length rows
      look_within = slice_get_within rows t at_hand.row at_hand.there

      module _ (r : Row P) (e : slice_get rows t ≡ Some r) where
        now : (b : Bool) → is_for m p l r ≡ b → first_row m rows p l ≡ cond b (Some t) (sought (suc t))
        now b h =
            let i : at_hand.row ≡ r = same_Some _ _ (sym at_hand.there ∙ e) in
            z.all ∙ at_hand.all ∙ ap (λ b. cond b (Some t) (sought (suc t))) (ap (is_for m p l) i ∙ h)

        pub look_found : is_for m p l r ≡ true → first_row m rows p l ≡ Some t
        look_found = now true

        module _ (heads links : List (Option ℕ)) (x : Indexes m rows 0 heads links) where
          next_of : get_or links t None ≡ next_in m rows (bucket_of m p l) (suc t)
          next_of =
              let i : at_hand.row ≡ r = same_Some _ _ (sym at_hand.there ∙ e) in
              x.1 t r (omega arith) e ∙ ap (λ b. next_in m rows b (suc t)) (eqb-true _ _ (ap (in_it (bucket_of m p l)) (sym i) ∙ at_hand.inside))

          -- from a row that is not the one to the next of the bucket
          pub look_more : is_for m p l r ≡ false → Sought (get_or links t None)
          look_more h = record { at = suc t; inside = omega (arith, look_within); next_is = next_of; all = now false h }

          pub look_nearer : (o : Option ℕ) → get_or links t None ≡ o → length rows - unwrap_or o (length rows) < length rows - t
          look_nearer None h = omega (arith, look_within)
          look_nearer (Some u) h =
              let f = found (length rows - suc t) (suc t) u (omega (arith, look_within)) (sym next_of ∙ h) in omega (arith, look_within, f.further)

    pub look_none : Sought None → first_row m rows p l ≡ None
    look_none z = z.all ∙ nothing (length rows - z.at) z.at (omega (arith, z.inside)) (sym z.next_is)

-- what stands between two parts of a list
pub slice_get_middle : {X : Type 0} (xs : List X) (x : X) (ys : List X) → slice_get (xs ++ x ∷ ys) (length xs) ≡ Some x
slice_get_middle [] x ys = refl
slice_get_middle (y ∷ xs) x ys = slice_get_middle xs x ys

-- a row is taken from the back of those that are left
module _ {X : Type 0} (xs left left' done : List X) (x : X) (taken : left ≡ push left' x) (all : xs ≡ left ++ done) where
  pub one_more : xs ≡ left' ++ (x ∷ done)
  one_more = all ∙ ap (λ (l : List X). l ++ done) taken ∙ append_assoc left' (x ∷ []) done

  pub one_less : length left ≡ suc (length left')
  one_less = ap length taken ∙ length_push left' x ∙ add-one (length left')

  pub taken_at : slice_get xs (length left') ≡ Some x
  taken_at = ap (λ (l : List X). slice_get l (length left')) one_more ∙ slice_get_middle left' x done
