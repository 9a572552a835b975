-- Passages as a visitor is shown them.
use Rattle.std.proofs.Common.{◌≡◌, ℕ, suc, ◌+◌, ◌<◌, ◌≤◌, Bool, true, List, [], ◌∷◌, ◌++◌, length, get_or, drop, Some, None, Ok, Option, sym, refl, ap, ◌∙◌, add-one, arith}
use Rattle.std.proofs.lemmas.List.{append_assoc, append-nil}
use Rattle.std.proofs.ByRecursion.{All-append, All-weaker}
use Rattle.arena.specs.Meaning.{Meaning}
use Rattle.arena.specs.declared.moves.Outcome.{Outcome}
use Rattle.table.specs.declared.row.Row.{Row}
use Rattle.table.specs.declared.fault.Fault.{Fault}
use Rattle.table.specs.Colours.{colour_of}
use Rattle.table.specs.Rows.{row_after, outcomes_of}
use Rattle.table.specs.Check.{numbered, verdict, outcome_faults, move_faults}
use Rattle.table.proofs.Lists.{verdict_ok}
use Rattle.table.proofs.Finds.{first_within}
use Rattle.table.proofs.Bounds.{small_colour}
use Rattle.plan.specs.declared.passage.Passage.{Passage}
use Rattle.plan.specs.Passages.{passage_to, passage_at, passages_at, passages_in, UpTo, Next, Ready}
use Rattle.plan.proofs.Turns.{split, turn_more}

-- an outcome that leads to row t
module _ {P : Type 0} (m : Meaning P) (rows : List (Row P)) (s latch i t c : ℕ) (o : Outcome P) (leads : row_after m rows latch o ≡ Some t) (colour : c ≡ colour_of latch o) where
  abbrev passage : Passage
  passage = record { from = s; outcome = i; colour = c; to = t }

  pub outcome_ok : {R : Type 0} (r : R) (rule : ℕ → ℕ → ℕ → Bool) → rule c s t ≡ true → Ok r ≡ verdict r (outcome_faults m rows rule s latch i o)
  outcome_ok r rule e = rw (leads, ← colour, e)

  pub passage_is : passage_at m rows s latch i o ≡ passage ∷ []
  passage_is = rw (leads, ← colour)

  pub passage_next : s < length rows → latch ≤ 5 → (before : List Passage) → UpTo s before → Next (length rows) before passage
  passage_next b h before up =
      record { from = b; to = first_within m _ _ rows t leads; colour = omega (arith, small_colour latch o h); last = up }

-- how far a row's outcomes have been shown: some passages, of rows up to s, are behind, and the rest make up all of them
pub record Partly {V : Type 0} (seen : V → ℕ → List Passage → Type 0) (n s : ℕ) (all rest : List Passage) (was is : V) : Type 0 where
  pub behind : List Passage
  pub whole : behind ++ rest ≡ all
  pub rows : UpTo s behind
  pub shown : (before : List Passage) → seen was n before → UpTo s before → seen is n (before ++ behind)

module _ {V : Type 0} (seen : V → ℕ → List Passage → Type 0) (n s : ℕ) (all : List Passage) (was : V) where
  pub partly_none : Partly seen n s all all was was
  partly_none =
      record { behind = []; whole = refl; rows = tt; shown = λ before h up. rw append-nil h }

  pub partly_more : (is is' : V) (more rest : List Passage) → UpTo s more →
      ((before : List Passage) → seen is n before → UpTo s before → seen is' n (before ++ more)) →
      Partly seen n s all (more ++ rest) was is → Partly seen n s all rest was is'
  partly_more is is' more rest up go x =
      record {
        behind = x.behind ++ more;
        whole = append_assoc x.behind more rest ∙ x.whole;
        rows = All-append (λ y. y.from ≤ s) x.behind more x.rows up;
        shown = λ before h b.
            rw (← append_assoc before x.behind more)
            (go (before ++ x.behind) (x.shown before h b) (All-append (λ y. y.from ≤ s) before x.behind b x.rows));
      }

  pub partly_ready : (is : V) (rest : List Passage) → Partly seen n s all rest was is → Ready seen n s was → Ready seen n s is
  partly_ready is rest x r =
      (r.0 ++ x.behind, (x.shown r.0 r.1.0 r.1.1, All-append (λ y. y.from ≤ s) r.0 x.behind r.1.1 x.rows))

-- what an outcome shows comes from its row
to_upto : (s i c : ℕ) (o : Option ℕ) → UpTo s (passage_to s i c o)
to_upto s i c None = tt
to_upto s i c (Some t) = (omega arith, tt)

pub at_upto : {P : Type 0} (m : Meaning P) (rows : List (Row P)) (s latch i : ℕ) (o : Outcome P) → UpTo s (passage_at m rows s latch i o)
at_upto m rows s latch i o = to_upto s i (colour_of latch o) (row_after m rows latch o)

numbered_upto : {X : Type 0} (s : ℕ) (f : ℕ → X → List Passage) → ((i : ℕ) (x : X) → UpTo s (f i x)) → (n : ℕ) (xs : List X) → UpTo s (numbered f n xs)
numbered_upto s f h n [] = tt
numbered_upto s f h n (x ∷ xs) = All-append (λ y. y.from ≤ s) (f n x) (numbered f (suc n) xs) (h n x) (numbered_upto s f h (suc n) xs)

pub row_upto : {P : Type 0} (m : Meaning P) (rows : List (Row P)) (s : ℕ) (r : Row P) → UpTo s (passages_at m rows s r)
row_upto m rows s r = numbered_upto s (passage_at m rows s r.latch) (at_upto m rows s r.latch) 0 (outcomes_of m r)

-- how far a row's outcomes have been tested and shown, from number i on
module _ {P V : Type 0} (m : Meaning P) (rows : List (Row P)) (rule : V → ℕ → ℕ → ℕ → ℕ → Bool) (seen : V → ℕ → List Passage → Type 0) (s : ℕ) (r : Row P) (was : V) where
  abbrev Faulty : V → ℕ → Outcome P → List Fault
  Faulty v = outcome_faults m rows (rule v (length rows)) s r.latch

  pub record Through (is : V) (i : ℕ) (rest : List (Outcome P)) : Type 0 where
    pub faults : numbered (Faulty was) i rest ≡ numbered (Faulty was) 0 (outcomes_of m r)
    pub count : i + length rest ≡ length (outcomes_of m r)
    pub same : rule is ≡ rule was
    pub part : Partly seen (length rows) s (passages_at m rows s r) (numbered (passage_at m rows s r.latch) i rest) was is

  pub through_none : (rest : List (Outcome P)) → rest ≡ outcomes_of m r → Through was 0 rest
  through_none rest e =
      record {
        faults = rw e;
        count = omega (arith, ap length e);
        same = refl;
        part = rw e (partly_none seen (length rows) s (passages_at m rows s r) was);
      }

  pub through_more : {R : Type 0} (x y : R) (is is' : V) (i : ℕ) (o : Outcome P) (rest rest' : List (Outcome P)) → rest ≡ o ∷ rest' →
      Ok y ≡ verdict x (Faulty is i o) → rule is' ≡ rule is →
      ((before : List Passage) → seen is (length rows) before → UpTo s before → seen is' (length rows) (before ++ passage_at m rows s r.latch i o)) →
      Through is i rest → Through is' (i + 1) rest'
  through_more x y is is' i o rest rest' e fine kept go t =
      let ρ = ap (λ (f : ℕ → ℕ → ℕ → ℕ → Bool). outcome_faults m rows (f (length rows)) s r.latch i o) t.same in
      let none : Faulty was i o ≡ [] = sym ρ ∙ (verdict_ok x y (Faulty is i o) fine).0 in
      record {
        faults = rw (add-one) (sym (rw none) ∙ (rw e at t.faults));
        count = omega (arith, t.count, ap length e);
        same = kept ∙ t.same;
        part =
            rw add-one
            (partly_more seen (length rows) s (passages_at m rows s r) was is is' (passage_at m rows s r.latch i o)
            (numbered (passage_at m rows s r.latch) (suc i) rest') (at_upto m rows s r.latch i o) go (rw e at t.part));
      }

-- how far the rows have been tested and shown, from row s on
module _ {P V : Type 0} (m : Meaning P) (rows : List (Row P)) (rule : V → ℕ → ℕ → ℕ → ℕ → Bool) (seen : V → ℕ → List Passage → Type 0) (was : V) where
  abbrev Wrong : V → ℕ → Row P → List Fault
  Wrong v = move_faults m rows (rule v (length rows))

  pub record Past (is : V) (s : ℕ) : Type 0 where
    pub faults : numbered (Wrong was) s (drop s rows) ≡ numbered (Wrong was) 0 rows
    pub same : rule is ≡ rule was
    pub behind : List Passage
    pub whole : behind ++ numbered (passages_at m rows) s (drop s rows) ≡ passages_in m rows
    pub upto : UpTo s behind
    pub shown : seen is (length rows) behind

  -- the rule is still that of the beginning
  pub same_past : {R : Type 0} (x : R) (is : V) (s : ℕ) (r : Row P) → Past is s → verdict x (Wrong is s r) ≡ verdict x (Wrong was s r)
  same_past x is s r t = ap (λ (f : ℕ → ℕ → ℕ → ℕ → Bool). verdict x (move_faults m rows (f (length rows)) s r)) t.same

  module _ {R : Type 0} (x y : R) (is is' : V) (s : ℕ) (r : Row P) (b : s < length rows) (read : r ≡ get_or rows s r) (fine : Ok y ≡ verdict x (Wrong is s r)) (t : Past is s) where
    pub past_more : rule is' ≡ rule is →
        ((before : List Passage) → seen is (length rows) before → UpTo s before → seen is' (length rows) (before ++ passages_at m rows s r)) →
        Past is' (s + 1)
    past_more kept go =
        record {
          faults = turn_more (Wrong was) rows x y s r b read (fine ∙ same_past x is s r t) t.faults;
          same = kept ∙ t.same;
          behind = t.behind ++ passages_at m rows s r;
          whole =
              append_assoc t.behind (passages_at m rows s r) _
              ∙ ap (λ (more : List Passage). t.behind ++ more) (sym (split (passages_at m rows) rows s r b read))
              ∙ t.whole;
          upto =
              All-weaker (λ z. z.from ≤ s) (λ z. z.from ≤ s + 1) (λ z h. omega arith) (t.behind ++ passages_at m rows s r)
              (All-append (λ z. z.from ≤ s) t.behind (passages_at m rows s r) t.upto (row_upto m rows s r));
          shown = go t.behind t.shown t.upto;
        }
