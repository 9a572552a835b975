-- The stretches of a rank list, drafted one after the other.
use Rattle.std.proofs.Common.{◌≡◌, ℕ, zero, suc, ◌+◌, ◌-◌, ◌*◌, ◌/◌, ◌%◌, ◌<◌, ◌≤◌, List, [], ◌∷◌, ◌++◌, length, get_or, take, drop, sym, ap, ◌∙◌, subst, mul-le-mul_right, arith, below_more}
use borrow.Rule.Slice.PartMut.{put_mid, post_of}
use Rattle.std.proofs.lemmas.List.{length-take, length-drop, get_or-take, get_or_append_left, get_or-append_right}
use Rattle.table.specs.declared.odd.OddColour.{OddColour}
use Rattle.table.specs.declared.odd.OddColour.TheVariants.{One, Three, Five, Seven}
use Rattle.table.specs.Odd.{odd}
use Rattle.table.specs.Ranks.{rank_of}
use Rattle.loops.specs.Graph.{Graph, Closed, Losing, NoLoop}
use Rattle.loops.proofs.Ranks.{none_losing}
use Rattle.loops.proofs.Tables.{by_place, keeps_same}
use Rattle.ranker.specs.Lifts.{rank_in, Smallest}

-- the odd colours in turn
pub odd_at : (q : ℕ) (d : OddColour) → q < 4 → odd (get_or (One ∷ Three ∷ Five ∷ Seven ∷ []) q d) ≡ 2 * q + 1
odd_at zero d b = omega arith
odd_at (suc zero) d b = omega arith
odd_at (suc (suc zero)) d b = omega arith
odd_at (suc (suc (suc zero))) d b = omega arith
odd_at (suc (suc (suc (suc q)))) d b = absurd (omega arith)

-- and all of them
pub odd_of : (p : ℕ) → p % 2 ≡ 1 → p ≤ 7 → (c : OddColour) × (odd c ≡ p)
odd_of = by_place (λ p. (c : OddColour) × (odd c ≡ p)) (λ q b. (get_or (One ∷ Three ∷ Five ∷ Seven ∷ []) q One, odd_at q One b))

-- the ranks of the four stretches are those of the colours
pub all_drafted : (g : Graph) (n : ℕ) (draft : List ℕ) → ((j : ℕ) → j < 4 → Smallest g (2 * j + 1) (λ s. get_or draft (j * n + s) 0)) → (c : OddColour) → Smallest g (odd c) (rank_of draft n (odd c))
all_drafted g n draft x One = x 0 (omega arith)
all_drafted g n draft x Three = x 1 (omega arith)
all_drafted g n draft x Five = x 2 (omega arith)
all_drafted g n draft x Seven = x 3 (omega arith)

-- a stretch ends within the list
pub stretch_end : (q n : ℕ) → q < 4 → (q + 1) * n ≤ 4 * n
stretch_end q n b = let c : q + 1 ≤ 4 = omega arith in mul-le-mul_right n c

pub stretch_length : (q n : ℕ) (xs : List ℕ) → q < 4 → length xs ≡ 4 * n → length (take ((q + 1) * n - q * n) (drop (q * n) xs)) ≡ n
stretch_length q n xs b e = simp (length-take, length-drop) (omega (arith, stretch_end q n b))

put_before : (a k : ℕ) (xs ys : List ℕ) (j : ℕ) → j < a → a ≤ length xs → get_or (put_mid a k xs ys) j 0 ≡ get_or xs j 0
put_before a k xs ys j b le =
    let l : length (take a xs) ≡ a = length-take a xs ∙ omega arith in
    get_or_append_left (take a xs) _ 0 j (omega arith) ∙ get_or-take a xs j 0 b

put_in : (a k : ℕ) (xs ys : List ℕ) (s : ℕ) → s < length ys → a ≤ length xs → get_or (put_mid a k xs ys) (a + s) 0 ≡ get_or ys s 0
put_in a k xs ys s b le =
    let l : length (take a xs) ≡ a = length-take a xs ∙ omega arith in
    let e : a + s - a ≡ s = omega arith in
    get_or-append_right (take a xs) _ a (a + s) 0 l (omega arith)
    ∙ (ap (λ (j : ℕ). get_or (ys ++ post_of a k xs) j 0) e ∙ get_or_append_left ys _ 0 s b)

-- only the ranks of rows matter
pub smallest_same : (g : Graph) (p : ℕ) (rank rank' : ℕ → ℕ) → Closed g → ((s : ℕ) → s < g.size → rank' s ≡ rank s) → Smallest g p rank → Smallest g p rank'
smallest_same g p rank rank' closed same x =
    record {
      keeps = keeps_same g p rank rank' closed same x.keeps;
      below = λ s b. omega (arith, same s b, x.below s b);
      least = λ other k s b. omega (arith, same s b, x.least other k s b);
    }

pub smallest_along : {g : Graph} {p p' : ℕ} {ranks ranks' : List ℕ} → Smallest g p (rank_in ranks) → p ≡ p' → ranks ≡ ranks' → Smallest g p' (rank_in ranks')
smallest_along {g} {p} {p'} {ranks} {ranks'} x e f = rw (← e, ← f) x

-- one more stretch
pub drafted_more : (g : Graph) (q n k : ℕ) (xs ys : List ℕ) → Closed g → g.size ≡ n → q * n ≤ length xs → length ys ≡ n →
    ((j : ℕ) → j < q → Smallest g (2 * j + 1) (λ s. get_or xs (j * n + s) 0)) → Smallest g (2 * q + 1) (λ s. get_or ys s 0) →
    (j : ℕ) → j < q + 1 → Smallest g (2 * j + 1) (λ s. get_or (put_mid (q * n) k xs ys) (j * n + s) 0)
drafted_more g q n k xs ys closed size le long old new =
    below_more (λ j. Smallest g (2 * j + 1) (λ s. get_or (put_mid (q * n) k xs ys) (j * n + s) 0)) q
    (λ j b.
    smallest_same g (2 * j + 1) _ _ closed (λ s h. put_before (q * n) k xs ys (j * n + s) (omega (arith, mul-le-mul_right n b)) le) (old j b))
    (smallest_same g (2 * q + 1) _ _ closed (λ s h. put_in (q * n) k xs ys s (omega arith) le) new)

-- no losing loop has a smaller colour than 2 q + 1, if the first q odd colours have ranks
pub none_smaller : (g : Graph) (q n : ℕ) (xs : List ℕ) → ((j : ℕ) → j < q → Smallest g (2 * j + 1) (λ s. get_or xs (j * n + s) 0)) → (p : ℕ) → p < 2 * q + 1 → NoLoop g p
none_smaller g q n xs old p b loop l =
    let e : 2 * (p / 2) + 1 ≡ p = omega (arith, l.odd) in
    let L : ℕ → Type 0 = λ c. Losing g c loop in
    none_losing g (2 * (p / 2) + 1) _ (old (p / 2) (omega (arith, l.odd))).keeps loop (subst L (sym e) l)
