-- What is read is sound but for the start, so that a text without a fault is refused exactly when it has no start.
use Rattle.std.proofs.Common.{◌≡◌, ℕ, zero, suc, ◌+◌, ◌*◌, ◌<◌, ◌≤◌, true, false, cond, ◌&&◌, ◌||◌, eqb, ltb, leb, List, [], ◌∷◌, ◌++◌, map, length, get_or, drop, is_some, IfSome, Some, None, Ok, Err, Option, Result, unwrap_or, sym, refl, ap, ◌∙◌, subst, inl, inr, add-zero, arith, lit≤}
use Rattle.std.specs.List.{AllByRecursion}
use Rattle.std.proofs.ByRecursion.{All-push, All-get_or, All-append, All-map, All-weaker}
use Rattle.std.proofs.lemmas.Slice.Eq.{bytes_eq-Decides}
use Rattle.std.proofs.lemmas.List.{length_push, length-map, length-append, length-drop, get_or-drop, get_or_past}
use Rattle.std.proofs.lemmas.List.Elements.{All-from_recursion}
use Rattle.std.proofs.lemmas.List.Sums.{list_all-from_AllPass}
use Rattle.std.proofs.lemmas.Bool.{cond-false, cond_both, eqb-true, ne_eqb, and_parts, and_from, or_left, or_right, not_from_false, cases_lt, lt-ltb, le-ltb, le-leb}
use Rattle.std.proofs.lemmas.Bool.Decides.{nat_tests}
use Rattle.regions.specs.Code.{within, is_own}
use Rattle.game.specs.declared.bounds.Bounds.{Bounds}
use Rattle.game.specs.Intervals.{fitting, inhabited, bounded}
use Rattle.game.specs.Start.{well_made}
use Rattle.game.proofs.Sounds.{sound_start}
use Rattle.game.specs.Game.{Game, last_whole, sound, suits, resettable, resetting, sound_location, sound_edge, fresh, owns, start}
use Rattle.casetext.specs.declared.fault.TextFault.{TextFault}
use Rattle.casetext.specs.declared.fault.TextFault.TheVariants.{NoStart}
use Rattle.table.specs.declared.odd.OddColour.{OddColour}
use Rattle.table.specs.declared.odd.OddColour.TheVariants.{One, Three, Five, Seven}
use Rattle.table.specs.Odd.{at}
use Rattle.casetext.specs.declared.line.Form.TheVariants.{Head, Number, Interval, Owner, End, Letters}
use Rattle.casetext.specs.declared.line.Kind.{Kind}
use Rattle.casetext.specs.declared.line.Kind.TheVariants.{Clock, Loc, Edge, Row}
use Rattle.casetext.specs.Text as text
use Rattle.casetext.specs.Text.{number, numeral, lines, fields}
use Rattle.casetext.specs.Fields.{dash, letters, all_letters, reset_letter, interval, wrong_interval, wrong_end, max_location, max_edge}
use Rattle.casetext.specs.Items.{location, edge, ranks, value, everything, bounds, zone, reset_at, max_priority, max_ceiling, resets, clock_at, clock_of, row, max_rank, max_whole, max_class, max_steps}
use Rattle.casetext.specs.Lines.{Ranks, Said, some, out_of_place, kind, forms, line_fault, max_clocks, max_locations, max_edges, max_rows}
use Rattle.casetext.specs.Case.{column, rank_list, max_text, Contents, nothing, added, unless_fault, read_fields, read_line, read_lines, ceilings_of, game_of, starts, contents, concluded, read_text}
use Rattle.casetext.specs.Sound.{Sound, RowInRange, ClockInRange}
use Rattle.casetext.proofs.Faults.{Passes, Fine, passing, in_place, fine, fine_at, fine_drop, faultless_length}
use Rattle.casetext.proofs.Layouts.{length_loc, length_edge}

-- What a field says with which nothing is wrong

-- a number up to a limit
value_up : (limit : ℕ) (f : List ℕ) → value limit f ≤ limit
value_up limit f = up (numeral f)
  where
    up : (o : Option ℕ) → unwrap_or (text.within 0 limit o) 0 ≤ limit
    up None = omega arith
    up (Some n) = cond_both (leb 0 n && leb n limit) _ _ (λ x. unwrap_or x 0 ≤ limit) (λ e. grind (arith, nat_tests)) (λ _. omega arith)

-- and from a limit
value_down : (low limit : ℕ) (f : List ℕ) → Passes (Number low limit) f → low ≤ value limit f
value_down low limit f (n, (i, e)) = down (numeral f) (passing (is_some (number low limit f)) _ e)
  where
    down : (o : Option ℕ) → is_some (text.within low limit o) ≡ true → low ≤ unwrap_or (text.within 0 limit o) 0
    down None e = absurd (grind arith)
    down (Some n) e = grind (arith, nat_tests)

-- an edge's end
there : (a b : TextFault) (count : ℕ) (o : Option ℕ) → wrong_end a b count o ≡ None → ltb (unwrap_or o 0) count ≡ true
there a b count None e = absurd (grind arith)
there a b count (Some l) e = passing (ltb l count) b e

end_there : (count : ℕ) (f : List ℕ) → Passes (End count) f → ltb (value max_location f) count ≡ true
end_there count f (n, (i, e)) = there _ _ count (number 0 max_location f) e

-- an interval
fit : (a b : TextFault) (c : ℕ) (o : Option Bounds) → 1 ≤ c → wrong_interval a b c o ≡ None → fitting c (unwrap_or o everything) ≡ true
fit a b c None h e = absurd (grind arith)
fit a b c (Some i) h e = let p = and_parts (inhabited i) (bounded c i) (passing _ b e) in rw (p.0, p.1) (grind (arith, nat_tests))

fits : (c : ℕ) (f : List ℕ) → 1 ≤ c → Passes (Interval c) f → fitting c (bounds f) ≡ true
fits c f h (n, (i, e)) = fit _ _ c (interval f) h e

abbrev InRange : ℕ → Type 0
InRange c = (1 ≤ c) × (c ≤ max_ceiling)

-- an interval for each clock that is there, and no field for one that is not
clock_fits : (cs : List ℕ) (fs : List (List ℕ)) (i : ℕ) → AllByRecursion InRange cs → length fs ≡ length cs → Fine (map Interval cs) fs → fitting (get_or cs i 0) (bounds (get_or fs i [])) ≡ true
clock_fits [] [] i r e h = refl
clock_fits [] (f ∷ fs) i r e h = absurd (omega arith)
clock_fits (c ∷ cs) [] i r e h = absurd h
clock_fits (c ∷ cs) (f ∷ fs) zero r e h = fits c f r.0.0 h.0
clock_fits (c ∷ cs) (f ∷ fs) (suc i) r e h = clock_fits cs fs i r.1 (omega arith) h.1

zone_drop : (k : ℕ) (fs : List (List ℕ)) → zone 0 (drop k fs) ≡ zone k fs
zone_drop k fs =
    let x = get_or-drop k fs 0 [] ∙ ap (λ m. get_or fs m []) (add-zero k) in
    λ j. record { x = bounds (x j); y = bounds (get_or-drop k fs 1 [] j); z = bounds (get_or-drop k fs 2 [] j) }

zone_suits : (cs : List ℕ) (k : ℕ) (fs : List (List ℕ)) → AllByRecursion InRange cs → length (drop k fs) ≡ length cs → Fine (map Interval cs) (drop k fs) → suits (ceilings_of cs) (zone k fs) ≡ true
zone_suits cs k fs r e h =
    let at = λ (i : ℕ). clock_fits cs (drop k fs) i r e h in
    subst (λ z. suits (ceilings_of cs) z ≡ true) (zone_drop k fs) (and_from _ _ (at 0) (and_from _ _ (at 1) (at 2)))

-- a letter for each clock that is there, and none that resets one that is not
dash_keeps : (i : ℕ) → reset_at i dash ≡ false
dash_keeps zero = refl
dash_keeps (suc i) = refl

no_letter : (n i : ℕ) (f : List ℕ) → n ≤ i → letters n f ≡ true → reset_at i f ≡ false
no_letter zero i f l h = ap (reset_at i) ((bytes_eq-Decides f dash).0 h) ∙ dash_keeps i
no_letter (suc n) i f l h =
    let t = and_parts (eqb (length f) (suc n)) (all_letters f) (sym (cond-false _ _ _ (ne_eqb (suc n) 0 (omega arith))) ∙ h) in
    ap (λ b. eqb b reset_letter) (get_or_past f i 0 (omega (arith, eqb-true _ _ t.0)))

clock_resets : (cs f : List ℕ) (i : ℕ) → AllByRecursion InRange cs → letters (length cs) f ≡ true → resettable (get_or cs i 0) (reset_at i f) ≡ true
clock_resets cs f i r h =
    elim (cases_lt i (length cs)) [
      | inl l ↦ or_left _ _ (lt-ltb 0 (get_or cs i 0) (All-get_or InRange cs i 0 l r).0)
      | inr l ↦ or_right (ltb 0 (get_or cs i 0)) _ (not_from_false _ (no_letter (length cs) i f l h))
    ]

resets_fit : (cs f : List ℕ) → AllByRecursion InRange cs → Passes (Letters (length cs)) f → resetting (ceilings_of cs) (resets f) ≡ true
resets_fit cs f r (n, (i, e)) =
    let at = λ (i : ℕ). clock_resets cs f i r (passing _ _ e) in
    and_from _ _ (at 0) (and_from _ _ (at 1) (at 2))

-- Rows

clock_in_range : (i : ℕ) (fs : List (List ℕ)) → ClockInRange (clock_at i fs)
clock_in_range i fs = record { whole = value_up max_whole (get_or fs i []); class = value_up max_class (get_or fs (i + 1) []) }

standing_in_range : (n i : ℕ) (fs : List (List ℕ)) → ClockInRange (clock_of n i fs)
standing_in_range n i fs = cond_both (ltb i n) _ _ ClockInRange (λ _. clock_in_range (3 + 2 * i) fs) (λ _. record { whole = lit≤ tt; class = lit≤ tt })

edge_in_range : (o : Option ℕ) → IfSome (text.within 0 max_edge o) (λ e. e ≤ max_edge)
edge_in_range None = tt
edge_in_range (Some n) = cond_both (leb 0 n && leb n max_edge) _ _ (λ x. IfSome x (λ e. e ≤ max_edge)) (λ e. grind (arith, nat_tests)) (λ _. tt)

row_in_range : (n : ℕ) (fs : List (List ℕ)) → RowInRange (row n fs)
row_in_range n fs =
    record {
      location = value_up max_location (get_or fs 1 []);
      latch = value_up max_priority (get_or fs 2 []);
      x = standing_in_range n 0 fs;
      y = standing_in_range n 1 fs;
      z = standing_in_range n 2 fs;
      tick = clock_in_range (3 + 2 * n) fs;
      steps = value_up max_steps (get_or fs (5 + 2 * n) []);
      edge = edge_in_range (numeral (get_or fs (6 + 2 * n) []));
    }

-- Lines

abbrev RanksInRange : Ranks → Type 0
RanksInRange r = (r.one ≤ max_rank) × (r.three ≤ max_rank) × (r.five ≤ max_rank) × (r.seven ≤ max_rank)

ranks_in_range : (n : ℕ) (fs : List (List ℕ)) → RanksInRange (ranks n fs)
ranks_in_range n fs = let at = λ (i : ℕ). value_up max_rank (get_or fs (i + 2 * n) []) in (at 7, at 8, at 9, at 10)

-- what the lines so far have said, the start apart
pub record InOrder (s : Said) : Type 0 where
  pub few_clocks : length s.ceilings ≤ max_clocks
  pub ceilings : AllByRecursion InRange s.ceilings
  pub few_locations : length s.locations ≤ max_locations
  pub locations : AllByRecursion (λ l. sound_location (ceilings_of s.ceilings) l ≡ true) s.locations
  pub few_edges : length s.edges ≤ max_edges
  pub edges : AllByRecursion (λ e. sound_edge (ceilings_of s.ceilings) (length s.locations) e ≡ true) s.edges
  pub few_rows : length s.rows ≤ max_rows
  pub rows : AllByRecursion RowInRange s.rows
  pub level : length s.ranks ≡ length s.rows
  pub ranks : AllByRecursion RanksInRange s.ranks

none : {X : Type 0} (xs : List X) → some xs ≡ false → xs ≡ []
none [] e = refl
none (x ∷ xs) e = absurd (grind arith)

module _ (s : Said) (o : InOrder s) (fs : List (List ℕ)) where
  -- what follows k fields
  rest_length : (m : ℕ) → length fs ≡ m + length s.ceilings → length (drop m fs) ≡ length s.ceilings
  rest_length m e = simp length-drop (omega arith)

  clock_step : Fine (forms s Clock) fs → InOrder (added s Clock fs)
  clock_step h =
      let t = in_place s Clock fs h in
      let cs = (added s Clock fs).ceilings in
      let n = length s.locations in
      let l = none s.locations (grind arith) in
      let e = none s.edges (grind arith) in
      let few : length s.ceilings < max_clocks = grind (arith, nat_tests) in
      record {
        few_clocks = simp length_push (omega arith);
        ceilings = All-push InRange s.ceilings _ o.ceilings (value_down 1 max_ceiling (get_or fs 1 []) (fine_at (forms s Clock) fs 1 Owner h (omega arith)), value_up max_ceiling (get_or fs 1 []));
        few_locations = o.few_locations;
        locations = subst (AllByRecursion (λ l. sound_location (ceilings_of cs) l ≡ true)) (sym l) tt;
        few_edges = o.few_edges;
        edges = subst (AllByRecursion (λ e. sound_edge (ceilings_of cs) n e ≡ true)) (sym e) tt;
        few_rows = o.few_rows;
        rows = o.rows;
        level = o.level;
        ranks = o.ranks;
      }

  loc_step : length fs ≡ length (forms s Loc) → Fine (forms s Loc) fs → InOrder (added s Loc fs)
  loc_step long h =
      let t = in_place s Loc fs h in
      let cs = s.ceilings in
      let n = length (added s Loc fs).locations in
      let e = none s.edges (grind arith) in
      let few : length s.locations < max_locations = grind (arith, nat_tests) in
      let priority = le-leb _ max_priority (value_up max_priority (get_or fs 1 [])) in
      let fit = zone_suits s.ceilings 2 fs o.ceilings (rest_length 2 (long ∙ length_loc s)) (fine_drop (Head (out_of_place s Loc) ∷ Number 0 max_priority ∷ []) (map Interval s.ceilings) fs h) in
      record {
        few_clocks = o.few_clocks;
        ceilings = o.ceilings;
        few_locations = simp length_push (omega arith);
        locations = All-push (λ l. sound_location (ceilings_of s.ceilings) l ≡ true) s.locations (location fs) o.locations (and_from _ _ priority fit);
        few_edges = o.few_edges;
        edges = subst (AllByRecursion (λ e. sound_edge (ceilings_of cs) n e ≡ true)) (sym e) tt;
        few_rows = o.few_rows;
        rows = o.rows;
        level = o.level;
        ranks = o.ranks;
      }

  edge_step : length fs ≡ length (forms s Edge) → Fine (forms s Edge) fs → InOrder (added s Edge fs)
  edge_step long h =
      let n = length s.locations in
      let t = in_place s Edge fs h in
      let few : length s.edges < max_edges = grind (arith, nat_tests) in
      let at = λ (i : ℕ) (l : i < length (forms s Edge)). fine_at (forms s Edge) fs i Owner h l in
      let fit = zone_suits s.ceilings 5 fs o.ceilings (rest_length 5 (long ∙ length_edge s)) (fine_drop (Head (out_of_place s Edge) ∷ Owner ∷ End n ∷ End n ∷ Letters (length s.ceilings) ∷ []) (map Interval s.ceilings) fs h) in
      record {
        few_clocks = o.few_clocks;
        ceilings = o.ceilings;
        few_locations = o.few_locations;
        locations = o.locations;
        few_edges = simp length_push (omega arith);
        edges = All-push (λ e. sound_edge (ceilings_of s.ceilings) n e ≡ true) s.edges (edge fs) o.edges (
            and_from _ _ (end_there n (get_or fs 2 []) (at 2 (omega arith)))
            (and_from _ _ (end_there n (get_or fs 3 []) (at 3 (omega arith)))
            (and_from _ _ (resets_fit s.ceilings (get_or fs 4 []) o.ceilings (at 4 (omega arith))) fit))
            );
        few_rows = o.few_rows;
        rows = o.rows;
        level = o.level;
        ranks = o.ranks;
      }

  row_step : Fine (forms s Row) fs → InOrder (added s Row fs)
  row_step h =
      let t = in_place s Row fs h in
      let few : length s.rows < max_rows = grind (arith, nat_tests) in
      record {
        few_clocks = o.few_clocks;
        ceilings = o.ceilings;
        few_locations = o.few_locations;
        locations = o.locations;
        few_edges = o.few_edges;
        edges = o.edges;
        few_rows = simp length_push (omega arith);
        rows = All-push RowInRange s.rows _ o.rows (row_in_range (length s.ceilings) fs);
        level = simp length_push (ap (λ n. n + 1) o.level);
        ranks = All-push RanksInRange s.ranks (ranks (length s.ceilings) fs) o.ranks (ranks_in_range (length s.ceilings) fs);
      }

  step : (k : Kind) → length fs ≡ length (forms s k) → Fine (forms s k) fs → InOrder (added s k fs)
  step Clock long h = clock_step h
  step Loc long h = loc_step long h
  step Edge long h = edge_step long h
  step Row long h = row_step h

-- a result is in order
abbrev OrderOk : Result Said TextFault → Type 0
OrderOk (Ok s) = InOrder s
OrderOk (Err e) = Unit {0}

fault_step : (n : ℕ) (s : Said) (o : InOrder s) (fs : List (List ℕ)) (k : Kind) (f : Option TextFault) → line_fault n (forms s k) fs ≡ f → OrderOk (unless_fault f (added s k fs))
fault_step n s o fs k None free = step s o fs k (faultless_length n (forms s k) fs free) (fine n (forms s k) fs free)
fault_step n s o fs k (Some f) free = tt

kind_step : (n : ℕ) (s : Said) (o : InOrder s) (fs : List (List ℕ)) (k : Option Kind) → OrderOk (read_fields n s k fs)
kind_step n s o fs None = tt
kind_step n s o fs (Some k) = fault_step n s o fs k (line_fault n (forms s k) fs) refl

lines_step : (ls : List (List ℕ)) (n : ℕ) (r : Result Said TextFault) → OrderOk r → OrderOk (read_lines n r ls)
lines_step [] n (Ok s) o = o
lines_step [] n (Err e) o = tt
lines_step (l ∷ ls) n (Ok s) o = lines_step ls (n + 1) (read_line (n + 1) s l) (kind_step (n + 1) s o (fields l) (kind (get_or (fields l) 0 [])))
lines_step (l ∷ ls) n (Err e) o = tt

nothing_in_order : InOrder nothing
nothing_in_order = record { few_clocks = lit≤ tt; ceilings = tt; few_locations = lit≤ tt; locations = tt; few_edges = lit≤ tt; edges = tt; few_rows = lit≤ tt; rows = tt; level = refl; ranks = tt }

-- The game

ceiling_low : (cs : List ℕ) (i : ℕ) → AllByRecursion InRange cs → leb (get_or cs i 0) max_ceiling ≡ true
ceiling_low [] i r = refl
ceiling_low (c ∷ cs) zero r = le-leb c max_ceiling r.0.1
ceiling_low (c ∷ cs) (suc i) r = ceiling_low cs i r.1

ceiling_turn : (cs : List ℕ) (i : ℕ) → AllByRecursion InRange cs → (ltb 0 (get_or cs i 0) || eqb (get_or cs (suc i) 0) 0) ≡ true
ceiling_turn [] i r = refl
ceiling_turn (c ∷ cs) zero r = or_left _ _ (lt-ltb 0 c r.0.0)
ceiling_turn (c ∷ cs) (suc i) r = ceiling_turn cs i r.1

well_made_lem : (s : Said) → InOrder s → well_made (game_of s) ≡ true
well_made_lem s o =
    let low = λ (i : ℕ). ceiling_low s.ceilings i o.ceilings in
    let turn = λ (i : ℕ). ceiling_turn s.ceilings i o.ceilings in
    and_from _ _ (and_from _ _ (low 0) (and_from _ _ (low 1) (and_from _ _ (low 2) refl)))
    (and_from _ _ (and_from _ _ (turn 0) (turn 1))
    (and_from _ _ (le-leb _ _ o.few_locations)
    (and_from _ _ (list_all-from_AllPass _ _ (All-from_recursion _ _ o.locations))
    (and_from _ _ (le-leb _ _ o.few_edges) (list_all-from_AllPass _ _ (All-from_recursion _ _ o.edges))))))

fresh_within : (c : ℕ) → within (fresh c) ≡ true
fresh_within c = grind (arith, nat_tests)

start_own : (g : Game) → is_own (start g).region ≡ true
start_own g = rw (fresh_within g.ceilings.x, fresh_within g.ceilings.y, fresh_within g.ceilings.z)

-- such a game is sound just when its start is inside the invariant
start_decides : (s : Said) → InOrder s → sound (game_of s) ≡ starts (game_of s)
start_decides s o =
    let g = game_of s in
    sound_start g ∙ ap (λ b. b && owns g (start g)) (well_made_lem s o) ∙ ap (λ b. b && (eqb (last_whole (start g).region) 0 && starts g)) (start_own g)

-- Ranks

four_ranks : (rs : List Ranks) → length (rank_list rs) ≡ 4 * length rs
four_ranks rs = simp (length-append, length-map) (omega arith)

column_in_range : (c : OddColour) (rs : List Ranks) → AllByRecursion RanksInRange rs → AllByRecursion (λ r. r ≤ max_rank) (column c rs)
column_in_range c rs h = All-map (λ r. r ≤ max_rank) (at c) rs (All-weaker RanksInRange (λ r. at c r ≤ max_rank) (pick c) rs h)
  where
    pick : (c : OddColour) (r : Ranks) → RanksInRange r → at c r ≤ max_rank
    pick One r h = h.0
    pick Three r h = h.1
    pick Five r h = h.2
    pick Seven r h = h.3

ranks_low : (rs : List Ranks) → AllByRecursion RanksInRange rs → AllByRecursion (λ r. r ≤ max_rank) (rank_list rs)
ranks_low rs h =
    let low = λ (c : OddColour). column_in_range c rs h in
    All-append _ (column One rs ++ column Three rs ++ column Five rs) _ (All-append _ (column One rs ++ column Three rs) _ (All-append _ (column One rs) _ (low One) (low Three)) (low Five)) (low Seven)

-- The text

abbrev SoundOk : Result Contents TextFault → Type 0
SoundOk (Ok c) = Sound c
SoundOk (Err e) = Unit {0}

finished_sound : (s : Said) → InOrder s → starts (game_of s) ≡ true → Sound (contents s)
finished_sound s o t =
    record {
      game = start_decides s o ∙ t;
      few_rows = o.few_rows;
      rows = o.rows;
      four_ranks = four_ranks s.ranks ∙ ap (λ n. 4 * n) o.level;
      ranks = ranks_low s.ranks o.ranks;
    }

concluded_sound : (r : Result Said TextFault) → OrderOk r → SoundOk (concluded r)
concluded_sound (Ok s) o = cond_both (starts (game_of s)) _ _ SoundOk (finished_sound s o) (λ _. tt)
concluded_sound (Err f) o = tt

pub read_sound : (text : List ℕ) (c : Contents) → read_text text ≡ Ok c → Sound c
read_sound text c e =
    subst SoundOk e
    (cond_both (ltb max_text (length text)) _ _ SoundOk (λ _. tt) (λ _. concluded_sound (read_lines 0 (Ok nothing) (lines text)) (lines_step (lines text) 0 (Ok nothing) nothing_in_order)))

-- a text that is not too long, once its lines are read
module _ (text : List ℕ) (r : Result Said TextFault) (short : length text ≤ max_text) (told : read_lines 0 (Ok nothing) (lines text) ≡ r) where
  pub read_told : read_text text ≡ concluded r
  read_told = cond-false _ _ _ (le-ltb max_text (length text) short) ∙ ap concluded told

  told_in_order : OrderOk r
  told_in_order = subst OrderOk told (lines_step (lines text) 0 (Ok nothing) nothing_in_order)

pub read_said : (text : List ℕ) (s : Said) → length text ≤ max_text → read_lines 0 (Ok nothing) (lines text) ≡ Ok s → read_text text ≡ cond (sound (game_of s)) (Ok (contents s)) (Err NoStart)
read_said text s short told = read_told text (Ok s) short told ∙ ap (λ b. cond b (Ok (contents s)) (Err NoStart)) (sym (start_decides s (told_in_order text (Ok s) short told)))
