-- A ring as it is written to the front of a list.
use Rattle.std.proofs.Common.{◌≡◌, ℕ, suc, ◌+◌, ◌%◌, ◌<◌, ◌≤◌, List, [], ◌∷◌, ◌++◌, length, get_or, drop, set, Option, unwrap_or, sym, refl, ap, ◌∙◌, subst, ⊎_elim, add-one, arith}
use Rattle.std.proofs.lemmas.List.{drop_more, set_at, append_assoc}
use Rattle.std.proofs.lemmas.Bool.{cases_eq, cases_lt}
use Rattle.table.specs.declared.odd.OddColour.{OddColour}
use Rattle.table.specs.declared.odd.OddColour.TheVariants.{One, Three, Five, Seven}
use Rattle.table.specs.Odd.{odd}
use Rattle.loops.specs.declared.pair.Pair.{Pair}
use Rattle.loops.specs.Graph.{Graph, largest}
use Rattle.loops.specs.Lifting.{Lifted, after, way, OnRing}
use Rattle.loops.proofs.Rings.{after_more, way_more, length_way, ring_top, ring_loses}
use Rattle.plan.specs.declared.passage.Passage.{Passage}
use Rattle.ranker.specs.Arcs.{arc_at, Tells, Told}
use Rattle.std.proofs.Math.Logic.{∥∥₁_elim}
use Rattle.std.specs.Coded.{Coded-set, coded_ℕ, ×_prop, le_prop}
use Rattle.ranker.specs.Lifts.{rank_in, place_in, pick_in, Owned, LiftedBy, OnRings}
use Rattle.ranker.specs.Loops.{Written}
use Rattle.ranker.proofs.Raises.{picks, leads}

pub odd_is : (c : OddColour) → odd c % 2 ≡ 1
odd_is One = refl
odd_is Three = refl
odd_is Five = refl
odd_is Seven = refl

-- k pairs of the ring of a row are written, which lead to another row, at which it goes on
pub record Along (g : Graph) (pick : ℕ → ℕ) (row k at : ℕ) (was is : List Pair) : Type 0 where
  pub there : after g pick k row ≡ at
  pub front : is ≡ way g pick k row ++ drop k was
  pub first : (j : ℕ) → 0 < j → j < suc k → after g pick j row ≡ row → ⊥

pub along_none : (g : Graph) (pick : ℕ → ℕ) (row : ℕ) (was : List Pair) → Along g pick row 0 row was was
along_none g pick row was = record { there = refl; front = refl; first = λ j a b. absurd (omega arith) }

-- one more over the list
over : (es : List Pair) (e : Pair) (was : List Pair) (k : ℕ) → length es ≡ k → k < length was → set (es ++ drop k was) k e ≡ (es ++ e ∷ []) ++ drop (k + 1) was
over es e was k q b =
    ap (λ (x : List Pair). set (es ++ x) k e) (drop_more was k e b)
    ∙ (set_at es (get_or was k e) (drop (k + 1) was) e k q ∙ sym (append_assoc es (e ∷ []) (drop (k + 1) was)))

module _ (arcs : List Passage) (ranks : List ℕ) (by : List (Option ℕ)) (row : ℕ) (own : Owned arcs ranks by) (ring : OnRings arcs ranks by row) (g : Graph) (tells : Tells (length ranks) arcs g)
    (was is : List Pair) (k at : ℕ) (x : Along g (pick_in arcs by) row k at was is) where
  abbrev on : OnRing g (rank_in ranks) (pick_in arcs by) (length ranks) row
  on = ring g tells

  -- so far it is within the rows
  at_within : at < length ranks
  at_within = omega (arith, on.within k, x.there, tells.size)

  at_lifted : 0 < rank_in ranks at
  at_lifted = let R : ℕ → Type 0 = λ s. 0 < rank_in ranks s in subst R x.there (on.lifted k)

  k_within : k < length ranks
  k_within =
      ⊎_elim
      (λ (h : k < on.length). omega (arith, on.few))
      (λ (h : on.length ≤ k). absurd (x.first on.length on.some (omega arith) on.back))
      (cases_lt k on.length)

  abbrev pair : Pair
  pair = record { row = at; outcome = pick_in arcs by at }

  next_there : after g (pick_in arcs by) (k + 1) row ≡ (arc_at arcs (unwrap_or (place_in by at) 0)).to
  next_there =
      after_more g (pick_in arcs by) k row
      ∙ ap (λ (s : ℕ). g.to s (pick_in arcs by s)) x.there
      ∙ leads g arcs ranks by own tells at at_within at_lifted

  next_front : k < length was → set is k pair ≡ way g (pick_in arcs by) (k + 1) row ++ drop (k + 1) was
  next_front b =
      let here : Pair = record { row = after g (pick_in arcs by) k row; outcome = pick_in arcs by (after g (pick_in arcs by) k row) } in
      let e : here ≡ pair = ap (λ (s : ℕ). record { row = s; outcome = pick_in arcs by s }) x.there in
      ap (λ (xs : List Pair). set xs k pair) x.front
      ∙ over (way g (pick_in arcs by) k row) pair was k (length_way g (pick_in arcs by) k row) b
      ∙ ap (λ (xs : List Pair). xs ++ drop (k + 1) was) (ap (λ (y : Pair). way g (pick_in arcs by) k row ++ y ∷ []) (sym e) ∙ sym (way_more g (pick_in arcs by) k row))

  pub along_more : k < length was → ((arc_at arcs (unwrap_or (place_in by at) 0)).to ≡ row → ⊥) → Along g (pick_in arcs by) row (k + 1) (arc_at arcs (unwrap_or (place_in by at) 0)).to was (set is k pair)
  along_more b on =
      record {
        there = next_there;
        front = next_front b;
        first = λ j a c e.
            ⊎_elim
            (λ (q : j ≡ k + 1). on (sym next_there ∙ ap (λ (i : ℕ). after g (pick_in arcs by) i row) (sym q) ∙ e))
            (λ (q : j ≡ k + 1 → ⊥). x.first j a (omega arith) e)
            (cases_eq j (k + 1));
      }

  pub along_all : (p : ℕ) → LiftedBy arcs p ranks by → k < length was → (arc_at arcs (unwrap_or (place_in by at) 0)).to ≡ row → p % 2 ≡ 1 → Written g p was (k + 1) (set is k pair)
  along_all p lifted b back odd =
      let N : ℕ → Type 0 = λ i. after g (pick_in arcs by) i row ≡ row in
      let back' : N (suc k) = subst N (add-one k) (next_there ∙ back) in
      let top : largest g (way g (pick_in arcs by) (suc k) row) ≡ p =
      ∥∥₁_elim (lifted g tells) (Coded-set coded_ℕ _ _) (λ (l : Lifted g p (rank_in ranks) (pick_in arcs by)). ring_top g p (rank_in ranks) (pick_in arcs by) tells.closed l (length ranks) k row on back') in
      record {
        loop = way g (pick_in arcs by) (k + 1) row;
        losing = rw add-one (ring_loses g (rank_in ranks) (pick_in arcs by) tells.closed (picks g arcs ranks by own tells) p (length ranks) k row odd on back' x.first top);
        long = length_way g (pick_in arcs by) (k + 1) row;
        front = next_front b;
      }

-- the way is within the rows
module _ (arcs : List Passage) (ranks : List ℕ) (by : List (Option ℕ)) (row : ℕ) (own : Owned arcs ranks by) (ring : OnRings arcs ranks by row) (told : ∥ Told (length ranks) arcs ∥₁)
    (was is : List Pair) (k at : ℕ) (along : (g : Graph) → Tells (length ranks) arcs g → Along g (pick_in arcs by) row k at was is) where
  pub along_within : (at < length ranks) × ((0 < rank_in ranks at) × (k < length ranks))
  along_within =
      ∥∥₁_elim told (×_prop le_prop (×_prop le_prop le_prop))
      (λ (t : Told (length ranks) arcs).
      let x = along t.0 t.1 in
      (at_within arcs ranks by row own ring t.0 t.1 was is k at x, (at_lifted arcs ranks by row own ring t.0 t.1 was is k at x, k_within arcs ranks by row own ring t.0 t.1 was is k at x)))
