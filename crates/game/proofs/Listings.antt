-- A move's outcomes, region by region and edge by edge.
use Rattle.std.proofs.Common.{◌≡◌, ℕ, zero, suc, ◌+◌, ◌-◌, ◌<◌, List, [], ◌∷◌, ◌++◌, length, Some, None, Option, sym, refl, ap, ◌∙◌, ap₂, append_assoc, append-nil, arith}
use Rattle.std.specs.List.{slice_get}
use Rattle.arena.specs.declared.moves.Side.TheVariants.{Them}
use Rattle.clocks.specs.Regions.{Part, onward, waits}
use Rattle.game.specs.declared.parts.Edge.{Edge}
use Rattle.game.specs.Game.{Game, each, given, fits, edge_fits, result_of, their_edge, theirs, theirs_at, ours_at}
use Rattle.game.specs.Listing.{edges_from, theirs_over, theirs_after}
use Rattle.game.specs.Theorems.{Listed, ByRegion, Beyond, ByEdge}

-- the first of each comes first
pub each_front : {A : Type 0} (n : ℕ) (f : ℕ → List A) → each (suc n) f ≡ f 0 ++ each n (λ j. f (suc j))
each_front zero f = sym (append-nil (f 0))
each_front (suc n) f = ap (λ xs. xs ++ f (suc n)) (each_front n f) ∙ append_assoc (f 0) (each n (λ j. f (suc j))) (f (suc n))

pub each_same : {A : Type 0} (n : ℕ) (f h : ℕ → List A) → ((j : ℕ) → f j ≡ h j) → each n f ≡ each n h
each_same zero f h e = refl
each_same (suc n) f h e = ap₂ ◌++◌ (each_same n f h e) (e n)

-- so many regions on
abbrev ahead : ℕ → Option (List Part) → Option (List Part)
ahead zero o = o
ahead (suc n) o = onward (ahead n o)

ahead_waits : (n : ℕ) (r : List Part) → ahead n (Some r) ≡ waits n r
ahead_waits zero r = refl
ahead_waits (suc n) r = ap onward (ahead_waits n r)

ahead_onward : (n : ℕ) (o : Option (List Part)) → ahead n (onward o) ≡ onward (ahead n o)
ahead_onward zero o = refl
ahead_onward (suc n) o = ap onward (ahead_onward n o)

module _ (g : Game) (l : ℕ) where
  over_each : (k : ℕ) (o : Option (List Part)) → theirs_over g l k o ≡ each (suc k) (λ j. theirs_at g l (ahead j o))
  over_each zero o = refl
  over_each (suc k) o =
      ap (λ xs. theirs_at g l o ++ xs) (over_each k (onward o) ∙ each_same (suc k) (λ j. theirs_at g l (ahead j (onward o))) (λ j. theirs_at g l (ahead (suc j) o)) (λ j. ap (theirs_at g l) (ahead_onward j o)))
      ∙ sym (each_front (suc k) (λ j. theirs_at g l (ahead j o)))

  pub over_waits : (k : ℕ) (r : List Part) → theirs_over g l k (Some r) ≡ each (suc k) (λ j. theirs_at g l (waits j r))
  over_waits k r = over_each k (Some r) ∙ each_same (suc k) (λ j. theirs_at g l (ahead j (Some r))) (λ j. theirs_at g l (waits j r)) (λ j. ap (theirs_at g l) (ahead_waits j r))

  edges_all : (q : List Part) → edges_from g l q 0 ≡ each (length g.edges) (their_edge g l q)
  edges_all q =
      let n : length g.edges - 0 ≡ length g.edges = omega arith in
      ap (λ n. each n (λ j. their_edge g l q (0 + j))) n
      ∙ each_same (length g.edges) (λ j. their_edge g l q (0 + j)) (their_edge g l q) (λ j. ap (their_edge g l q) (omega arith))

pub listed : Listed
listed g p k e = ap (λ xs. ours_at g p.location e (waits k p.region) ++ xs) (sym (over_waits g p.location k p.region))

pub by_region : ByRegion
by_region g l k q = over k ∙ ap (λ xs. result_of g Them l None q ∷ xs ++ theirs_after g l k q) (sym (edges_all g l q))
  where
    over : (k : ℕ) → theirs_over g l k (Some q) ≡ theirs g l q ++ theirs_after g l k q
    over zero = sym (append-nil (theirs g l q))
    over (suc k) = refl

pub beyond : Beyond
beyond g l zero = refl
beyond g l (suc k) = beyond g l k

pub by_edge : ByEdge
by_edge g l q i = (more, λ h. let n : length g.edges - i ≡ 0 = omega arith in ap (λ n. each n (λ j. their_edge g l q (i + j))) n)
  where
    more : i < length g.edges → edges_from g l q i ≡ their_edge g l q i ++ edges_from g l q (i + 1)
    more h =
        let n : length g.edges - i ≡ suc (length g.edges - (i + 1)) = omega arith in
        let z : i + 0 ≡ i = omega arith in
        ap (λ n. each n (λ j. their_edge g l q (i + j))) n
        ∙ each_front (length g.edges - (i + 1)) (λ j. their_edge g l q (i + j))
        ∙ ap₂ ◌++◌ (ap (their_edge g l q) z)
        (each_same (length g.edges - (i + 1)) (λ j. their_edge g l q (i + suc j)) (λ j. their_edge g l q (i + 1 + j)) (λ j. ap (their_edge g l q) (omega arith)))

-- the edge at number i is at hand
pub edge_more : (g : Game) (l : ℕ) (q : List Part) (i : ℕ) (e : Edge) → slice_get g.edges i ≡ Some e
    → edges_from g l q i ≡ given (fits g Them l q e) (result_of g Them l (Some e) q) ++ edges_from g l q (i + 1)
edge_more g l q i e h =
    (by_edge g l q i).0 (below g.edges i h) ∙ ap (λ o. given (edge_fits g Them l q o) (result_of g Them l o q) ++ edges_from g l q (i + 1)) h
  where
    below : (es : List Edge) (i : ℕ) → slice_get es i ≡ Some e → i < length es
    below [] i h = let z : ◌≡◌ {A = ℕ} 0 1 = cc in omega arith
    below (d ∷ es) zero h = omega arith
    below (d ∷ es) (suc i) h = let t = below es i h in omega arith
