-- A walk by an accepted table never gets stuck, and its tallies stay below the number of rows.
use Rattle.std.proofs.Common.{◌≡◌, ℕ, zero, suc, ◌+◌, ◌%◌, ◌<◌, ◌≤◌, Bool, true, false, cond, leb, ◌⊎◌, List, [], ◌∷◌, length, Some, None, Ok, Err, Option, Result, sym, refl, ap, ◌∙◌, inl, inr, ⊎_elim, arith}
use Rattle.std.specs.List.{slice_get}
use Rattle.std.proofs.lemmas.Bool.{cases_lt, le-ltb, lt-leb, leb-true}
use Rattle.std.proofs.lemmas.Option.{none-some}
use Rattle.arena.specs.Meaning.{Meaning, Lawful}
use Rattle.arena.specs.declared.moves.Outcome.{Outcome}
use Rattle.table.specs.declared.row.Row.{Row}
use Rattle.table.specs.declared.fault.Fault.{Fault}
use Rattle.table.specs.declared.fault.Fault.TheVariants.{NoOutcome, TooManyRounds}
use Rattle.table.specs.Odd.{odd, for_each}
use Rattle.table.specs.Colours.{colour_of, latch_after}
use Rattle.table.specs.Rows.{first_row, outcomes_of}
use Rattle.table.specs.Ranks.{rank_of}
use Rattle.table.specs.Accepts.{Accepts}
use Rattle.table.proofs.Finds.{first_is, first_within, stands_first}
use Rattle.runs.specs.Walk.{tally_after, moved, chosen, taken, moved_by, Call, step, tally, History, begun, noted, called, after}
use Rattle.runs.specs.Counted.{last_position, last_latch, colours, counted, tally_of}
use Rattle.runs.specs.Wins.{Stands}
use Rattle.runs.proofs.Counts.{below, below_most}
use Rattle.runs.proofs.Ranked.{Falls, round_bound, counts, leads_on}

err_ok : {X F : Type 0} {x : X} {f : F} → ◌≡◌ {A = Result X F} (Err f) (Ok x) → ⊥
err_ok e = let z : ◌≡◌ {A = ℕ} 0 1 = cc in omega arith

err_same : {X F : Type 0} {f g : F} → ◌≡◌ {A = Result X F} (Err f) (Err g) → f ≡ g
err_same e = cc

-- what stands at a number that is there
pub nth_there : {X : Type 0} (xs : List X) (i : ℕ) → i < length xs → (x : X) × (slice_get xs i ≡ Some x)
nth_there [] i b = absurd (omega arith)
nth_there (x ∷ xs) zero b = (x, refl)
nth_there (x ∷ xs) (suc i) b = nth_there xs i (omega arith)

module _ {P : Type 0} (m : Meaning P) (ok : Lawful m) (rows : List (Row P)) (ranks : List ℕ) (a : Accepts m rows ranks) where
  -- how much room the tally of p has left at row s
  abbrev Room : ℕ → ℕ → List ℕ → Type 0
  Room s p past = tally_of p past + below (rank_of ranks (length rows) p) (length rows) s < length rows

  -- what a walk keeps
  record Good (h : History P) : Type 0 where
    position : h.walk.position ≡ last_position m h.past
    latch : h.walk.latch ≡ last_latch m h.past
    number : ℕ
    row : Row P
    here : first_row m rows h.walk.position h.walk.latch ≡ Some number
    there : slice_get rows number ≡ Some row
    reads : h.walk.tally ≡ counted m h.past
    room : (p : ℕ) → p % 2 ≡ 1 → p ≤ 7 → Room number p (colours m h.past)

  room_on : (p c s t : ℕ) (past : List ℕ) → t < length rows → Falls (rank_of ranks (length rows) p) p c s t → Room s p past → Room t p (c ∷ past)
  room_on p c s t past b f h = rw (← counts p c past) (round_bound (rank_of ranks (length rows) p) (length rows) p c s t (tally_of p past) b f h)

  count_on : (o : Outcome P) (past : List (Outcome P)) → tally_after (colour_of (last_latch m past) o) (counted m past) ≡ counted m (o ∷ past)
  count_on o past =
      let c = colour_of (last_latch m past) o in
      let cs = colours m past in
      let r : length past + 1 ≡ length (o ∷ past) = omega arith in
      λ i. record { rounds = r i; counts = for_each (λ p. counts (odd p) c cs i) }

  good_round : (h : History P) (g : Good h) (i : ℕ) (o : Outcome P) → slice_get (outcomes_of m g.row) i ≡ Some o →
      Good (record { walk = moved m h.walk o; past = o ∷ h.past })
  good_round h g i o x =
      let w = h.walk in
      let n = leads_on m ok rows ranks a w.position w.latch g.number i g.row o g.here g.there x in
      let f = first_is m o.position _ rows n.to n.there in
      record {
        position = refl;
        latch = ap (λ l. latch_after m l o) g.latch;
        number = n.to;
        row = f.row;
        here = n.there;
        there = f.there;
        reads = rw (g.reads, g.latch) (count_on o h.past);
        room = λ p od b. rw (← g.latch) (room_on p (colour_of w.latch o) g.number n.to (colours m h.past) n.within (n.falls p od b) (g.room p od b));
      }

  -- only the last two tests of a step can fail
  taken_is : (h : History P) (g : Good h) (i : ℕ) → taken m rows i h.walk ≡ cond (leb 1000000 (length h.past)) (Err TooManyRounds) (chosen (slice_get (outcomes_of m g.row) i))
  taken_is h g i = rw (le-ltb 1024 (length rows) a.few, g.reads, g.here, g.there, a.legal g.number g.row g.there)

  by_tests : (h : History P) (g : Good h) (i : ℕ) (b : Bool) (x : Option (Outcome P)) → slice_get (outcomes_of m g.row) i ≡ x →
      let o = cond b (Err TooManyRounds) (chosen x) in Good (record { walk = moved_by m h.walk o; past = noted o h.past })
  by_tests h g i true x e = g
  by_tests h g i false None e = g
  by_tests h g i false (Some o) e = good_round h g i o e

  good_called : (h : History P) → Good h → (c : Call) → Good (called m rows h c)
  good_called h g (step i) = rw (taken_is h g i) (by_tests h g i (leb 1000000 (length h.past)) (slice_get (outcomes_of m g.row) i) refl)
  good_called h g tally = g

  good_after : (calls : List Call) (h : History P) → Good h → Good (after m rows h calls)
  good_after [] h g = g
  good_after (c ∷ calls) h g = good_after calls _ (good_called h g c)

  good_begun : Good (begun m)
  good_begun =
      let f = stands_first m _ _ ok rows a.starts.0 a.starts.1 in
      let r = first_is m _ _ rows f.0 f.1 in
      let b = first_within m _ _ rows f.0 f.1 in
      record {
        position = refl;
        latch = refl;
        number = f.0;
        row = r.row;
        here = f.1;
        there = r.there;
        reads = refl;
        room = λ p od c. omega (arith, below_most (rank_of ranks (length rows) p) (length rows) f.0 b);
      }

  stays_by : (n i : ℕ) (r : Row P) (f : Fault) (b : Bool) (x : Option (Outcome P)) → leb 1000000 n ≡ b → slice_get (outcomes_of m r) i ≡ x →
      cond b (Err TooManyRounds) (chosen x) ≡ Err f →
      ((f ≡ TooManyRounds) × (1000000 ≤ n)) ⊎ ((f ≡ NoOutcome) × (length (outcomes_of m r) ≤ i))
  stays_by n i r f true x eb ex e = inl (sym (err_same e), leb-true _ _ eb)
  stays_by n i r f false None eb ex e =
      inr (
        sym (err_same e),
        ⊎_elim
            (λ (b : i < length (outcomes_of m r)). absurd (none-some _ (sym ex ∙ (nth_there (outcomes_of m r) i b).1)))
            (λ (b : length (outcomes_of m r) ≤ i). b)
            (cases_lt i (length (outcomes_of m r))),
      )
  stays_by n i r f false (Some o) eb ex e = absurd (err_ok (sym e))

  stands : (h : History P) → Good h → Stands m rows h
  stands h g =
      record {
        position = g.position;
        latch = g.latch;
        row = g.row;
        here = rw g.here g.there;
        legal = a.legal g.number g.row g.there;
        goes = λ i o b e. rw (taken_is h g i, lt-leb 1000000 (length h.past) b, e);
        stays = λ i f e. stays_by (length h.past) i g.row f _ _ refl refl (sym (taken_is h g i) ∙ e);
        reads = g.reads;
        few = λ p od b. omega (arith, g.room p od b);
      }

  pub walks : (calls : List Call) → Stands m rows (after m rows (begun m) calls)
  walks calls = stands _ (good_after calls (begun m) good_begun)
