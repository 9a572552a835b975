-- Lifting along arcs.
use Rattle.std.proofs.Common.{◌≡◌, ℕ, ◌-◌, ◌<◌, ◌≤◌, List, length, set, sum_by, None, Some, Option, unwrap_or, option_map, MatchOption, sym, refl, ap, ◌∙◌, subst, ⊎_elim, arith}
use Rattle.std.proofs.Math.Logic.{∥∥₁_elim, ∥∥₁_map}
use Rattle.std.specs.Coded.{le_prop}
use Rattle.std.proofs.lemmas.List.{length-set, get_or-set_same, get_or-set_other}
use Rattle.std.proofs.lemmas.List.Sums.{sum_by-set}
use Rattle.std.proofs.lemmas.Bool.{cases_eq}
use Rattle.plan.specs.declared.passage.Passage.{Passage}
use Rattle.loops.specs.Graph.{Graph, due, Keeps}
use Rattle.loops.specs.Lifting.{Lifted}
use Rattle.loops.proofs.Lifts.{lifted_more}
use Rattle.loops.proofs.Rings.{Picks}
use Rattle.ranker.specs.Arcs.{arc_at, IsArc, Tells, Told}
use Rattle.ranker.specs.Lifts.{rank_in, place_in, pick_in, due_by, Below, slack, Owned, LiftedBy, Moved, AllMet, Smallest}

-- an arc leads from row to row
pub arc_from : (n : ℕ) (arcs : List Passage) (k : ℕ) → ∥ Told n arcs ∥₁ → k < length arcs → (arc_at arcs k).from < n
arc_from n arcs k told b = ∥∥₁_elim told le_prop (λ t. omega (arith, t.1.size, (t.1.true k b).row))

pub arc_to : (n : ℕ) (arcs : List Passage) (k : ℕ) → ∥ Told n arcs ∥₁ → k < length arcs → (arc_at arcs k).to < n
arc_to n arcs k told b =
    ∥∥₁_elim told le_prop (λ t. let x = t.1.true k b in omega (arith, t.1.size, x.to, t.1.closed _ _ x.row x.outcome))

-- what an arc asks for is what its outcome asks for
due_is : (g : Graph) (p : ℕ) (ranks : List ℕ) (a : Passage) → IsArc g a → due_by p ranks a ≡ due g p (rank_in ranks) a.from a.outcome
due_is g p ranks a x = rw (x.colour, x.to)

-- ranks that meet every arc keep the rule
met_keeps : (g : Graph) (p : ℕ) (arcs : List Passage) (ranks : List ℕ) → Tells (length ranks) arcs g → AllMet arcs p ranks → Keeps g p (rank_in ranks)
met_keeps g p arcs ranks tells met s i b k c =
    let w = tells.whole s i b k in
    let x = w.1 in
    let m = met w.0 x.there in
    let e : due_by p ranks (arc_at arcs w.0) ≡ due g p (rank_in ranks) s i = rw (x.colour, x.to) in
    omega (arith, m (omega (arith, x.colour)), ap (rank_in ranks) x.row)

-- row s, of rank r, was lifted last by arc k of its own if it is above 0
abbrev OwnedBy : List Passage → ℕ → ℕ → Option ℕ → Type 0
OwnedBy arcs s r k = MatchOption k (r ≡ 0) (λ k. (0 < r) × (k < length arcs) × ((arc_at arcs k).from ≡ s))

owned_at : (arcs : List Passage) (s r : ℕ) (k : Option ℕ) → OwnedBy arcs s r k → 0 < r → (unwrap_or k 0 < length arcs) × ((arc_at arcs (unwrap_or k 0)).from ≡ s)
owned_at arcs s r None own up = absurd (omega (arith, own, up))
owned_at arcs s r (Some k) own up = (own.1, own.2)

-- a row that an arc lifted is above 0, and that arc leads from it; else it is at 0
pub lifter_is : (arcs : List Passage) (s r : ℕ) (k : Option ℕ) (a : Option Passage) → OwnedBy arcs s r k → a ≡ option_map (arc_at arcs) k →
    MatchOption a (r ≡ 0) (λ a. (0 < r) × (unwrap_or k 0 < length arcs) × (a ≡ arc_at arcs (unwrap_or k 0)))
lifter_is arcs s r None a own e = subst (λ (a : Option Passage). MatchOption a (r ≡ 0) (λ a. (0 < r) × (0 < length arcs) × (a ≡ arc_at arcs 0))) (sym e) own
lifter_is arcs s r (Some k) a own e = subst (λ (a : Option Passage). MatchOption a (r ≡ 0) (λ a. (0 < r) × (k < length arcs) × (a ≡ arc_at arcs k))) (sym e) (own.0, own.1, refl)

-- it is an outcome of the row
pub picks : (g : Graph) (arcs : List Passage) (ranks : List ℕ) (by : List (Option ℕ)) → Owned arcs ranks by → Tells (length ranks) arcs g → Picks g (rank_in ranks) (pick_in arcs by)
picks g arcs ranks by own tells s b h =
    let o = (owned_at arcs s _ (place_in by s) (own s (omega (arith, tells.size))) h) in
    let F : ℕ → Type 0 = λ r. pick_in arcs by s < g.count r in
    subst F o.1 (tells.true (unwrap_or (place_in by s) 0) o.0).outcome

-- and leads where its outcome does
pub leads : (g : Graph) (arcs : List Passage) (ranks : List ℕ) (by : List (Option ℕ)) → Owned arcs ranks by → Tells (length ranks) arcs g →
    (s : ℕ) → s < length ranks → 0 < rank_in ranks s → g.to s (pick_in arcs by s) ≡ (arc_at arcs (unwrap_or (place_in by s) 0)).to
leads g arcs ranks by own tells s b h =
    let o = (owned_at arcs s _ (place_in by s) (own s b) h) in
    let x = tells.true (unwrap_or (place_in by s) 0) o.0 in
    sym (x.to ∙ ap (λ (r : ℕ). g.to r (pick_in arcs by s)) o.1)

-- once every arc is met the ranks are the smallest that keep the rule
pub met_smallest : (g : Graph) (p : ℕ) (arcs : List Passage) (ranks : List ℕ) (by : List (Option ℕ)) → Tells (length ranks) arcs g → LiftedBy arcs p ranks by → Below ranks → AllMet arcs p ranks →
    Smallest g p (rank_in ranks)
met_smallest g p arcs ranks by tells lifted below met =
    record {
      keeps = met_keeps g p arcs ranks tells met;
      below = λ s b. omega (arith, tells.size, below s (omega (arith, tells.size)));
      least = λ other k s b. ∥∥₁_elim (lifted g tells) le_prop (λ (l : Lifted g p (rank_in ranks) (pick_in arcs by)). l.least other k s b);
    }

-- arc k asks the rank of its row to rise to v
pub record Raise (arcs : List Passage) (p : ℕ) (ranks : List ℕ) (by : List (Option ℕ)) (k v : ℕ) : Type 0 where
  pub told : ∥ Told (length ranks) arcs ∥₁
  pub there : k < length arcs
  pub room : length ranks ≤ length by
  pub small : (arc_at arcs k).colour ≤ p
  pub is : v ≡ due_by p ranks (arc_at arcs k)
  pub up : rank_in ranks (arc_at arcs k).from < v

module _ {arcs : List Passage} {p : ℕ} {ranks : List ℕ} {by : List (Option ℕ)} {k v : ℕ} (raise : Raise arcs p ranks by k v) where
  abbrev row : ℕ
  row = (arc_at arcs k).from

  pub within : row < length ranks
  within = arc_from (length ranks) arcs k raise.told raise.there

  raised : rank_in (set ranks row v) row ≡ v
  raised = get_or-set_same ranks row v 0 within

  other : (s : ℕ) → (s ≡ row → ⊥) → rank_in (set ranks row v) s ≡ rank_in ranks s
  other s ne = get_or-set_other ranks row s v 0 ne

  -- the arc is its row's own
  abbrev by' : List (Option ℕ)
  by' = set by row (Some k)

  own_here : place_in by' row ≡ Some k
  own_here = get_or-set_same by row (Some k) None (omega (arith, raise.room, within))

  own_there : (s : ℕ) → (s ≡ row → ⊥) → place_in by' s ≡ place_in by s
  own_there s ne = get_or-set_other by row s (Some k) None ne

  pub owned_more : Owned arcs ranks by → Owned arcs (set ranks row v) by'
  owned_more was s b =
      ⊎_elim
      (λ (e : s ≡ row).
      let q : place_in by' s ≡ Some k = ap (place_in by') e ∙ own_here in
      let r : rank_in (set ranks row v) s ≡ v = ap (rank_in (set ranks row v)) e ∙ raised in
      let O : Option ℕ → Type 0 = OwnedBy arcs s (rank_in (set ranks row v) s) in
      subst O (sym q) (omega (arith, r, raise.up), raise.there, sym e))
      (λ (e : s ≡ row → ⊥).
      let O : ℕ → Option ℕ → Type 0 = OwnedBy arcs s in
      subst (O (rank_in (set ranks row v) s)) (sym (own_there s e)) (subst (λ (r : ℕ). O r (place_in by s)) (sym (other s e)) (was s (omega (arith, length-set ranks row v)))))
      (cases_eq s row)

  pub lifted_higher : LiftedBy arcs p ranks by → LiftedBy arcs p (set ranks row v) by'
  lifted_higher was g tells' =
      let F : ℕ → Type 0 = λ n. Tells n arcs g in
      let tells : Tells (length ranks) arcs g = subst F (length-set ranks row v) tells' in
      let x = tells.true k raise.there in
      let e = due_is g p ranks (arc_at arcs k) x in
      ∥∥₁_map (was g tells)
      (λ (l : Lifted g p (rank_in ranks) (pick_in arcs by)).
      lifted_more g p (rank_in ranks) (rank_in (set ranks row v)) (pick_in arcs by) (pick_in arcs by') tells.closed l row (arc_at arcs k).outcome
      x.row x.outcome (omega (arith, x.colour, raise.small)) (omega (arith, raise.up, raise.is)) (raised ∙ raise.is ∙ e) other
      (ap (λ (j : Option ℕ). (arc_at arcs (unwrap_or j 0)).outcome) own_here) (λ r ne. ap (λ (j : Option ℕ). (arc_at arcs (unwrap_or j 0)).outcome) (own_there r ne)))

  -- it leaves less slack
  pub slack_less : rank_in ranks row < length ranks → slack (set ranks row v) < slack ranks
  slack_less lt =
      let F : ℕ → ℕ = λ n. sum_by (λ r. n - r) (set ranks row v) in
      omega (arith, ap F (length-set ranks row v), sum_by-set (λ r. length ranks - r) ranks row v 0 within, raise.up)

  pub below_more : Below ranks → rank_in (set ranks row v) row < length (set ranks row v) → Below (set ranks row v)
  below_more below lt s b =
      ⊎_elim
      (λ (e : s ≡ row). omega (arith, ap (rank_in (set ranks row v)) e))
      (λ (e : s ≡ row → ⊥). omega (arith, other s e, below s (omega (arith, length-set ranks row v)), length-set ranks row v))
      (cases_eq s row)

  -- so the ranks have moved
  pub moved : Below ranks → Moved (λ _. Unit {0}) ranks (set ranks row v) (Some row)
  moved below = (omega (arith, length-set ranks row v, within), slack_less (below row within), below_more below)
