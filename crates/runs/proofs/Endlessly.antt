-- Runs without end by an accepted table.
use Rattle.std.proofs.Common.{◌≡◌, ℕ, zero, suc, ◌+◌, ◌%◌, ◌<◌, ◌≤◌, max, Bool, true, false, ◌&&◌, eqb, List, length, Some, sym, refl, ap, ◌∙◌, subst, ⊎_elim, arith}
use Rattle.std.specs.List.{slice_get}
use Rattle.std.proofs.lemmas.Bool.{cases_eq, cases_lt, cases_Bool, both_ways, and_parts, eqb-true, eq-eqb, ne_eqb, cond-true, cond-false}
use Rattle.std.proofs.lemmas.Option.{same_Some}
use Rattle.arena.specs.Meaning.{Meaning, Lawful}
use Rattle.arena.specs.declared.moves.Side.{Side}
use Rattle.arena.specs.declared.moves.Side.TheVariants.{Us, Them}
use Rattle.arena.specs.declared.moves.Outcome.{Outcome}
use Rattle.table.specs.declared.row.Row.{Row}
use Rattle.table.specs.Colours.{side_colour, colour_of, latch_after}
use Rattle.table.specs.Rows.{first_row, outcomes_of}
use Rattle.table.specs.Ranks.{rank_of}
use Rattle.table.specs.Accepts.{Accepts}
use Rattle.table.proofs.Finds.{first_is, first_within, stands_first}
use Rattle.runs.specs.Runs.{Endless, ticks, colour_at, priority_at, NoTick, Begins, is_us, times}
use Rattle.runs.proofs.Counts.{below, below_most, times_mono}
use Rattle.runs.proofs.Ranked.{Falls, one_more, leads_on}
use Rattle.runs.proofs.Walks.{nth_there}

times_none : (f : ℕ → Bool) (n k : ℕ) → ((j : ℕ) → k ≤ j → f j ≡ false) → times f k n ≡ 0
times_none f zero k h = refl
times_none f (suc n) k h = rw (h k (omega arith)) (omega (arith, times_none f n (suc k) (λ j b. h j (omega arith))))

-- the latch is the largest priority since the last tick
module _ {P : Type 0} (m : Meaning P) (rows : List (Row P)) (run : Endless m rows) where
  abbrev Largest : ℕ → Type 0
  Largest j = ((i : ℕ) → NoTick run i j → priority_at run i ≤ run.latch j) × ((i : ℕ) × NoTick run i j × (priority_at run i ≡ run.latch j))

  here_now : (j : ℕ) → NoTick run j j
  here_now j = (omega arith, λ k b c. absurd (omega arith))

  at_tick : (j : ℕ) → ticks run j ≡ true → run.latch (suc j) ≡ priority_at run (suc j)
  at_tick j e = (run.then j).1 ∙ (cond-true (ticks run j) _ _ e ∙ sym (ap m.priority (run.then j).0))

  no_tick : (j : ℕ) → ticks run j ≡ false → run.latch (suc j) ≡ max (run.latch j) (priority_at run (suc j))
  no_tick j e = (run.then j).1 ∙ (cond-false (ticks run j) _ _ e ∙ sym (ap (λ x. max (run.latch j) (m.priority x)) (run.then j).0))

  -- one more moment without a tick
  longer : (i j : ℕ) → ticks run j ≡ false → NoTick run i j → NoTick run i (suc j)
  longer i j e h = (
    omega (arith, h.0),
    λ k b c. ⊎_elim (λ (q : k ≡ j). ap (ticks run) q ∙ e) (λ (q : k ≡ j → ⊥). h.1 k b (omega arith)) (cases_eq k j),
  )

  shorter : (i j : ℕ) → NoTick run i (suc j) → i ≤ j → NoTick run i j
  shorter i j h b = (b, λ k c d. h.1 k c (omega arith))

  after_tick : (i j : ℕ) → ticks run j ≡ true → NoTick run i (suc j) → i ≡ suc j
  after_tick i j e h =
      ⊎_elim
      (λ (q : i ≡ suc j). q)
      (λ (q : i ≡ suc j → ⊥). absurd (both_ways (ticks run j) (h.1 j (omega (arith, h.0)) (omega arith)) e))
      (cases_eq i (suc j))

  pub latch_at : (j : ℕ) → Largest j
  latch_at zero =
      let e : run.latch 0 ≡ priority_at run 0 = run.at_first.1 ∙ sym (ap m.priority run.at_first.0) in
      (λ i h. let q : i ≡ 0 = omega (arith, h.0) in omega (arith, e, ap (priority_at run) q), (0, here_now 0, sym e))
  latch_at (suc j) =
      let old = latch_at j in
      ⊎_elim
      (λ (e : ticks run j ≡ true).
      let l = at_tick j e in
      (λ i h. omega (arith, l, ap (priority_at run) (after_tick i j e h)), (suc j, here_now (suc j), sym l)))
      (λ (e : ticks run j ≡ false).
      let l = no_tick j e in (
        λ i h.
            ⊎_elim
            (λ (q : i ≡ suc j). omega (arith, l, ap (priority_at run) q))
            (λ (q : i ≡ suc j → ⊥). omega (arith, l, old.0 i (shorter i j h (omega (arith, h.0)))))
            (cases_eq i (suc j)),
        ⊎_elim
            (λ (b : run.latch j < priority_at run (suc j)). (suc j, here_now (suc j), omega (arith, l)))
            (λ (b : priority_at run (suc j) ≤ run.latch j). let x = old.1 in (x.0, longer x.0 j e x.1, omega (arith, l, x.2)))
            (cases_lt (run.latch j) (priority_at run (suc j))),
      ))
      (cases_Bool (ticks run j))

side_small : (x : Side) → side_colour x ≤ 1
side_small Us = omega arith
side_small Them = omega arith

side_us : (x : Side) → is_us x ≡ true → eqb 1 (side_colour x) ≡ true
side_us Us e = refl
side_us Them e = absurd (both_ways true (sym e) refl)

tick_colour : {P : Type 0} (l : ℕ) (o : Outcome P) → o.ticked ≡ true → colour_of l o ≡ l + 2
tick_colour l o e = rw e

plain_colour : {P : Type 0} (l : ℕ) (o : Outcome P) → o.ticked ≡ false → colour_of l o ≡ side_colour o.by
plain_colour l o e = rw e

module _ {P : Type 0} (m : Meaning P) (ok : Lawful m) (rows : List (Row P)) (ranks : List ℕ) (a : Accepts m rows ranks) where
  some_row : 0 < length rows
  some_row = let f = stands_first m _ _ ok rows a.starts.0 a.starts.1 in omega (arith, first_within m _ _ rows f.0 f.1)

  module _ (run : Endless m rows) where
    within : (k : ℕ) → run.row k < length rows
    within k = first_within m (run.position k) (run.latch k) rows (run.row k) (run.here k)

    next_row : (k p : ℕ) → p % 2 ≡ 1 → p ≤ 7 → Falls (rank_of ranks (length rows) p) p (colour_at run k) (run.row k) (run.row (suc k))
    next_row k p od b =
        let f = first_is m (run.position k) (run.latch k) rows (run.row k) (run.here k) in
        let n = leads_on m ok rows ranks a (run.position k) (run.latch k) (run.row k) (run.number k) f.row (run.outcome k) (run.here k) f.there (run.picked k f.row f.there) in
        let e : first_row m rows (run.position (suc k)) (run.latch (suc k)) ≡ Some n.to = rw ((run.then k).0, (run.then k).1) n.there in
        let F : ℕ → Type 0 = λ t. Falls (rank_of ranks (length rows) p) p (colour_at run k) (run.row k) t in
        subst F (same_Some _ _ (sym e ∙ run.here (suc k))) (n.falls p od b)

    fades : (p : ℕ) → p % 2 ≡ 1 → p ≤ 7 → (n k : ℕ) → ((j : ℕ) → k ≤ j → colour_at run j ≤ p) →
        times (λ j. eqb p (colour_at run j)) k n ≤ below (rank_of ranks (length rows) p) (length rows) (run.row k)
    fades p od b zero k h = omega arith
    fades p od b (suc n) k h =
        one_more (rank_of ranks (length rows) p) (length rows) p (colour_at run k) (run.row k) (run.row (suc k)) _ (within (suc k)) (h k (omega arith)) (next_row k p od b)
        (fades p od b n (suc k) (λ j c. h j (omega arith)))

    -- latches go up to 5, and so colours to 7
    small_latch : (j : ℕ) → run.latch j ≤ 5
    small_latch j = let x = (latch_at m rows run j).1 in omega (arith, x.2, (ok.ranges (run.position x.0)).0)

    small_colour : (j : ℕ) → colour_at run j ≤ 7
    small_colour j =
        ⊎_elim
        (λ (e : ticks run j ≡ true). omega (arith, tick_colour (run.latch j) (run.outcome j) e, small_latch j))
        (λ (e : ticks run j ≡ false). omega (arith, plain_colour (run.latch j) (run.outcome j) e, side_small (run.outcome j).by))
        (cases_Bool (ticks run j))

    pub colours_fade : (p k : ℕ) → p % 2 ≡ 1 → ((j : ℕ) → k ≤ j → colour_at run j ≤ p) → (n : ℕ) → times (λ j. eqb p (colour_at run j)) k n < length rows
    colours_fade p k od h n =
        ⊎_elim
        (λ (b : p < 8). omega (arith, fades p od (omega arith) n k h, below_most (rank_of ranks (length rows) p) (length rows) (run.row k) (within k)))
        (λ (b : 8 ≤ p). omega (arith, some_row, times_none (λ j. eqb p (colour_at run j)) n k (λ j c. ne_eqb p (colour_at run j) (λ e. omega (arith, small_colour j)))))
        (cases_lt p 8)

    pub ours_stop : (k : ℕ) → ((j : ℕ) → k ≤ j → ticks run j ≡ false) → (n : ℕ) → times (λ j. is_us (run.outcome j).by) k n < length rows
    ours_stop k h n =
        let colour : (j : ℕ) → k ≤ j → colour_at run j ≡ side_colour (run.outcome j).by = λ j b. plain_colour (run.latch j) (run.outcome j) (h j b) in
        let less = times_mono (λ j. is_us (run.outcome j).by) (λ j. eqb 1 (colour_at run j)) n k
        (λ j b e. let q = colour j b in eq-eqb 1 (colour_at run j) (eqb-true 1 _ (side_us (run.outcome j).by e) ∙ sym q)) in
        omega (arith, less, colours_fade 1 k refl (λ j b. omega (arith, colour j b, side_small (run.outcome j).by)) n)

    -- where no priority is above q from a tick on, no latch is
    low_latch : (q k : ℕ) → Begins run k → ((j : ℕ) → k ≤ j → priority_at run j ≤ q) → (j : ℕ) → k ≤ j → run.latch j ≤ q
    low_latch q k begins h j b =
        let x = (latch_at m rows run j).1 in
        let from : k ≤ x.0 =
        ⊎_elim
        (λ (e : k ≡ 0). omega arith)
        (λ (y : (i : ℕ) × (suc i ≡ k) × (ticks run i ≡ true)).
        ⊎_elim
        (λ (c : x.0 < k). absurd (both_ways (ticks run y.0) (x.1.1 y.0 (omega (arith, y.1)) (omega (arith, y.1))) y.2))
        (λ (c : k ≤ x.0). c)
        (cases_lt x.0 k))
        begins in
        omega (arith, x.2, h x.0 from)

    pub odd_ticks_stop : (q k : ℕ) → q % 2 ≡ 1 → Begins run k → ((j : ℕ) → k ≤ j → priority_at run j ≤ q) → (n : ℕ) → times (λ j. ticks run j && eqb q (run.latch j)) k n < length rows
    odd_ticks_stop q k od begins h n =
        let low = low_latch q k begins h in
        let less = times_mono (λ j. ticks run j && eqb q (run.latch j)) (λ j. eqb (q + 2) (colour_at run j)) n k
        (λ j b e.
        let x = and_parts (ticks run j) (eqb q (run.latch j)) e in
        eq-eqb (q + 2) (colour_at run j) (omega (arith, tick_colour (run.latch j) (run.outcome j) x.0, eqb-true q (run.latch j) x.1))) in
        let small : (j : ℕ) → k ≤ j → colour_at run j ≤ q + 2 = λ j b.
        ⊎_elim
        (λ (e : ticks run j ≡ true). omega (arith, tick_colour (run.latch j) (run.outcome j) e, low j b))
        (λ (e : ticks run j ≡ false). omega (arith, plain_colour (run.latch j) (run.outcome j) e, side_small (run.outcome j).by))
        (cases_Bool (ticks run j)) in
        omega (arith, less, colours_fade (q + 2) k (omega arith) small n)

-- a place of a run, with its row
record Spot {P : Type 0} (m : Meaning P) (rows : List (Row P)) : Type 0 where
  position : P
  latch : ℕ
  number : ℕ
  row : Row P
  here : first_row m rows position latch ≡ Some number
  there : slice_get rows number ≡ Some row

module _ {P : Type 0} (m : Meaning P) (ok : Lawful m) (rows : List (Row P)) (ranks : List ℕ) (a : Accepts m rows ranks)
    (pick : ℕ → ℕ → ℕ) (picks : (k n : ℕ) → 1 ≤ n → pick k n < n) where
  pick_at : ℕ → Spot m rows → ℕ
  pick_at k x = pick k (length (outcomes_of m x.row))

  outcome_at : (k : ℕ) (x : Spot m rows) → (o : Outcome P) × (slice_get (outcomes_of m x.row) (pick_at k x) ≡ Some o)
  unfolding pick_at
  outcome_at k x = nth_there (outcomes_of m x.row) (pick_at k x) (picks k _ (ok.counts _ _ (a.legal x.number x.row x.there)).0)

  make : (p : P) (l t : ℕ) → first_row m rows p l ≡ Some t → Spot m rows
  make p l t e = let f = first_is m p l rows t e in record { position = p; latch = l; number = t; row = f.row; here = e; there = f.there }

  next_spot : (k : ℕ) → Spot m rows → Spot m rows
  next_spot k x =
      let o = outcome_at k x in
      let n = leads_on m ok rows ranks a x.position x.latch x.number (pick_at k x) x.row o.0 x.here x.there o.1 in
      make o.0.position (latch_after m x.latch o.0) n.to n.there

  spot : ℕ → Spot m rows
  spot zero = let f = stands_first m _ _ ok rows a.starts.0 a.starts.1 in make m.start (m.priority m.start) f.0 f.1
  spot (suc k) = next_spot k (spot k)

  pub run_of : (run : Endless m rows) × ((k : ℕ) (r : Row P) → slice_get rows (run.row k) ≡ Some r → run.number k ≡ pick k (length (outcomes_of m r)))
  unfolding spot next_spot make pick_at
  run_of = (
    record {
      position = λ k. (spot k).position;
      latch = λ k. (spot k).latch;
      row = λ k. (spot k).number;
      number = λ k. pick_at k (spot k);
      outcome = λ k. (outcome_at k (spot k)).0;
      at_first = (refl, refl);
      here = λ k. (spot k).here;
      picked = λ k r e. let q : (spot k).row ≡ r = same_Some _ _ (sym (spot k).there ∙ e) in rw (← q) (outcome_at k (spot k)).1;
      then = λ k. (refl, refl);
    },
    λ k r e. let q : (spot k).row ≡ r = same_Some _ _ (sym (spot k).there ∙ e) in ap (λ (x : Row P). pick k (length (outcomes_of m x))) q,
  )
