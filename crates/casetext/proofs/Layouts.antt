-- The forms of a line's fields, one by one.
use Rattle.std.proofs.Common.{◌≡◌, ℕ, zero, suc, ◌+◌, ◌-◌, ◌*◌, ◌%◌, ◌<◌, ◌≤◌, cond, eqb, List, [], ◌∷◌, ◌++◌, length, get_or, replicate, refl, ap, ◌∙◌, arith, lit≤}
use Rattle.std.proofs.lemmas.List.{length-map, length-append, get_or-append_right, get_or-replicate}
use Rattle.casetext.specs.declared.line.Form.{Form}
use Rattle.casetext.specs.declared.line.Form.TheVariants.{Number, Choice}
use Rattle.casetext.specs.declared.line.Kind.{Kind}
use Rattle.casetext.specs.declared.line.Kind.TheVariants.{Clock, Loc, Edge, Row}
use Rattle.casetext.specs.Fields.{max_location}
use Rattle.casetext.specs.Items.{max_priority, max_whole, max_class, max_steps, max_rank}
use Rattle.casetext.specs.Lines.{Said, standings, row_forms, row_end, forms}

length_standings : (cs : List ℕ) → length (standings cs) ≡ 2 * length cs + 2
length_standings [] = refl
length_standings (c ∷ cs) = simp length-append (omega (arith, length_standings cs))

-- how many fields a line has

pub length_loc : (s : Said) → length (forms s Loc) ≡ 2 + length s.ceilings
length_loc s = simp length-map (omega arith)

pub length_edge : (s : Said) → length (forms s Edge) ≡ 5 + length s.ceilings
length_edge s = simp length-map (omega arith)

length_row_forms : (cs : List ℕ) → length (row_forms cs) ≡ 10 + 2 * length cs
length_row_forms cs = simp length-append (omega (arith, length_standings cs))

pub length_row : (s : Said) → length (forms s Row) ≡ 11 + 2 * length s.ceilings
length_row s = omega (arith, length_row_forms s.ceilings)

-- no line has more than 17
pub few_forms : (s : Said) (k : Kind) → length s.ceilings ≤ 3 → length (forms s k) ≤ 17
few_forms s Clock few = lit≤ tt
few_forms s Loc few = omega (arith, length_loc s)
few_forms s Edge few = omega (arith, length_edge s)
few_forms s Row few = omega (arith, length_row s)

-- whole parts and classes in turn
standing_at : (cs : List ℕ) (t : List Form) (j : ℕ) (d : Form) → j < 2 * length cs + 2 → get_or (standings cs ++ t) j d ≡ cond (eqb (j % 2) 0) (Number 0 max_whole) (Number 0 max_class)
standing_at [] t zero d l = refl
standing_at [] t (suc zero) d l = refl
standing_at [] t (suc (suc j)) d l = absurd (omega arith)
standing_at (c ∷ cs) t zero d l = refl
standing_at (c ∷ cs) t (suc zero) d l = refl
standing_at (c ∷ cs) t (suc (suc j)) d l =
    let same : j % 2 ≡ suc (suc j) % 2 = omega arith in
    standing_at cs t j d (omega arith) ∙ ap (λ k. cond (eqb k 0) (Number 0 max_whole) (Number 0 max_class)) same

module _ (cs : List ℕ) (i : ℕ) (d : Form) where
  pub row_standing : 2 ≤ i → i < 4 + 2 * length cs → get_or (row_forms cs) i d ≡ cond (eqb (i % 2) 0) (Number 0 max_whole) (Number 0 max_class)
  row_standing low high =
      let same : (i - 2) % 2 ≡ i % 2 = omega arith in
      get_or-append_right (Number 0 max_location ∷ Number 0 max_priority ∷ []) (standings cs ++ row_end) 2 i d refl low
      ∙ standing_at cs row_end (i - 2) d (omega arith)
      ∙ ap (λ k. cond (eqb k 0) (Number 0 max_whole) (Number 0 max_class)) same

  row_end_lem : 4 + 2 * length cs ≤ i → get_or (row_forms cs) i d ≡ get_or row_end (i - (4 + 2 * length cs)) d
  row_end_lem low =
      let same : i - 2 - (2 * length cs + 2) ≡ i - (4 + 2 * length cs) = omega arith in
      get_or-append_right (Number 0 max_location ∷ Number 0 max_priority ∷ []) (standings cs ++ row_end) 2 i d refl (omega arith)
      ∙ get_or-append_right (standings cs) row_end (2 * length cs + 2) (i - 2) d (length_standings cs) (omega arith)
      ∙ ap (λ k. get_or row_end k d) same

  -- the k-th of the fields after the clocks
  pub row_end_at : (k : ℕ) → i ≡ 4 + 2 * length cs + k → get_or (row_forms cs) i d ≡ get_or row_end k d
  row_end_at k e =
      let same : i - (4 + 2 * length cs) ≡ k = omega arith in
      row_end_lem (omega arith) ∙ ap (λ n. get_or row_end n d) same

  pub row_rank : 6 + 2 * length cs ≤ i → i < length (row_forms cs) → get_or (row_forms cs) i d ≡ Number 0 max_rank
  row_rank low high =
      let k = i - (4 + 2 * length cs) in
      row_end_lem (omega arith) ∙ get_or-append_right (Number 0 max_steps ∷ Choice ∷ []) (replicate 4 (Number 0 max_rank)) 2 k d refl (omega arith)
      ∙ get_or-replicate 4 (k - 2) (Number 0 max_rank) d (omega (arith, length_row_forms cs))
