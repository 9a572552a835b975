-- How far a sweep has come.
use Rattle.std.proofs.Common.{◌≡◌, ℕ, ◌<◌, ◌≤◌, List, [], ◌∷◌, ◌++◌, length, Some, None, Option, sym, ◌∙◌, subst, ⊎_elim, arith}
use Rattle.std.specs.List.{ContainsAt}
use Rattle.std.proofs.ByRecursion.{has_push_cases}
use Rattle.plan.specs.declared.passage.Passage.{Passage}
use Rattle.ranker.specs.Arcs.{arc_at}
use Rattle.table.specs.Odd.{odd}
use Rattle.ranker.specs.declared.lifting.Lifting.{Lifting}
use Rattle.ranker.specs.Task.{SameTask}
use Rattle.ranker.specs.Lifts.{rank_in, due_by, Met, Below, Moved, AllMet, AllSmallest}
use Rattle.ranker.proofs.Raises.{Raise, met_smallest}

-- the arcs at these places are met
abbrev pub MetAt : List Passage → ℕ → List ℕ → List ℕ → Type 0
MetAt arcs p ks ranks = (k : ℕ) → ContainsAt ks k → Met p ranks (arc_at arcs k)

module _ (arcs : List Passage) (p : ℕ) (was : List ℕ) where
  -- one more, which is met
  pub moved_met : (ks ranks ranks' : List ℕ) (k : ℕ) (last : Option ℕ) → ranks' ≡ ranks → Met p ranks' (arc_at arcs k) →
      Moved (MetAt arcs p ks) was ranks last → Moved (MetAt arcs p (ks ++ k ∷ [])) was ranks' last
  moved_met ks ranks ranks' k None same met x =
      let F : List ℕ → Type 0 = MetAt arcs p ks in
      let old : MetAt arcs p ks ranks' = subst F (sym same) x.1 in
      let M : ℕ → Type 0 = λ j. Met p ranks' (arc_at arcs j) in
      (same ∙ x.0, λ j h. ⊎_elim (old j) (λ (e : k ≡ j). subst M e met) (has_push_cases ks k j h))
  moved_met ks ranks ranks' k (Some s) same met x = rw same x

  -- all of them
  pub moved_all : (ks ranks : List ℕ) (last : Option ℕ) → ((k : ℕ) → k < length arcs → ContainsAt ks k) → Moved (MetAt arcs p ks) was ranks last → Moved (AllMet arcs p) was ranks last
  moved_all ks ranks None whole x = (x.0, λ k b. x.1 k (whole k b))
  moved_all ks ranks (Some s) whole x = x

-- the task stays the same
pub same_trans : {a b c : Lifting} → SameTask a b → SameTask b c → SameTask a c
same_trans x y = record { arcs = y.arcs ∙ x.arcs; colour = y.colour ∙ x.colour; list = y.list ∙ x.list }

pub same_met : {was is : Lifting} → SameTask was is → (ranks : List ℕ) (k : ℕ) → Met (odd is.colour) ranks (arc_at is.arcs.list.now k) → Met (odd was.colour) ranks (arc_at was.arcs.list.now k)
same_met same ranks k met = rw (← same.arcs, ← same.colour) met

-- what lifts a row of it
pub raise_of : (l : Lifting) (k v : ℕ) → length l.by ≡ 1024 → k < length l.arcs.list.now → (arc_at l.arcs.list.now k).colour ≤ odd l.colour → v ≡ due_by (odd l.colour) l.ranks.now (arc_at l.arcs.list.now k) →
    rank_in l.ranks.now (arc_at l.arcs.list.now k).from < v → Raise l.arcs.list.now (odd l.colour) l.ranks.now l.by k v
raise_of l k v long there small is up =
    record { told = rw l.rows l.arcs.told; there = there; room = omega (arith, l.rows, l.arcs.small); small = small; is = is; up = up }

-- after a sweep without a change the ranks are the smallest
pub settled : (was is : Lifting) (r : Option ℕ) → SameTask was is → Below was.ranks.now → r ≡ None → Moved (AllMet was.arcs.list.now (odd was.colour)) was.ranks.now is.ranks.now r →
    AllSmallest is.arcs.list.now (odd is.colour) is.ranks.now
settled was is r same below e moved g tells =
    let M : Option ℕ → Type 0 = Moved (AllMet was.arcs.list.now (odd was.colour)) was.ranks.now is.ranks.now in
    let m : M None = subst M e moved in
    met_smallest g (odd is.colour) is.arcs.list.now is.ranks.now is.by tells is.lifted (rw m.0 below) (rw (same.arcs, same.colour) m.1)
