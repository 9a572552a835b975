-- Maps and tests over a list whose elements all have a property.
use Rattle.std.proofs.Common.{◌≡◌, ℕ, zero, suc, ◌+◌, ◌<◌, ◌≤◌, Bool, true, false, cond, ◌||◌, eqb, ◌⊎◌, List, [], ◌∷◌, map, refl, ap, inl, inr, arith}
use mathlib.Core.Path.{fun_ext}
use Rattle.std.specs.List.{AllByRecursion}
use Rattle.std.proofs.lemmas.Bool.{or_parts, or_left, or_right, or_cases, cases_Bool, eqb-true, eq-eqb}
use Rattle.clocks.specs.Regions.{Part, some, seen, upto, rank, top}

module _ {X : Type 0} (P : X → Type 0) where
  pub map_same : {Y : Type 0} (f g : X → Y) → ((x : X) → P x → f x ≡ g x) → (xs : List X) → AllByRecursion P xs → map f xs ≡ map g xs
  map_same f g e [] h = refl
  map_same f g e (x ∷ xs) h = let a = e x h.0 in let b = map_same f g e xs h.1 in cc

  pub some_same : (f g : X → Bool) → ((x : X) → P x → f x ≡ g x) → (xs : List X) → AllByRecursion P xs → some f xs ≡ some g xs
  some_same f g e [] h = refl
  some_same f g e (x ∷ xs) h = let a = e x h.0 in let b = some_same f g e xs h.1 in cc

pub some_map : {X Y : Type 0} (q : Y → Bool) (f : X → Y) (xs : List X) → some q (map f xs) ≡ some (λ x. q (f x)) xs
some_map q f [] = refl
some_map q f (x ∷ xs) = ap (λ b. q (f x) || b) (some_map q f xs)

-- one more before the others
pub shift : (f g : ℕ → Bool) (n : ℕ) → ((v : ℕ) → v < n → g (suc (suc v)) ≡ f (suc v)) → upto g (suc n) ≡ cond (g 1) 1 0 + upto f n
shift f g zero e = omega arith
shift f g (suc n) e = let a = shift f g n (λ v h. e v (omega arith)) in let b = e n (omega arith) in rw b (omega arith)

pub map_keep : {X : Type 0} (P : X → Type 0) (f : X → X) → ((x : X) → P x → f x ≡ x) → (xs : List X) → AllByRecursion P xs → map f xs ≡ xs
map_keep P f e [] h = refl
map_keep P f e (x ∷ xs) h = let a = e x h.0 in let b = map_keep P f e xs h.1 in cc

pub some_ext : {X : Type 0} (f g : X → Bool) → ((x : X) → f x ≡ g x) → (xs : List X) → some f xs ≡ some g xs
some_ext f g e xs = ap (λ h. some h xs) (fun_ext e)

pub some_none : {X : Type 0} (f : X → Bool) → ((x : X) → f x ≡ false) → (xs : List X) → some f xs ≡ false
some_none f e [] = refl
some_none f e (x ∷ xs) = let a = e x in let b = some_none f e xs in cc

pub map_ext : {X Y : Type 0} (f g : X → Y) → ((x : X) → f x ≡ g x) → (xs : List X) → map f xs ≡ map g xs
map_ext f g e xs = ap (λ h. map h xs) (fun_ext e)

pub none_each : {X : Type 0} (f : X → Bool) (xs : List X) → some f xs ≡ false → AllByRecursion (λ x. f x ≡ false) xs
none_each f [] h = tt
none_each f (x ∷ xs) h = let k = or_parts (f x) (some f xs) h in (k.0, none_each f xs k.1)

pub each_none : {X : Type 0} (P : X → Type 0) (f : X → Bool) → ((x : X) → P x → f x ≡ false) → (xs : List X) → AllByRecursion P xs → some f xs ≡ false
each_none P f e [] h = refl
each_none P f e (x ∷ xs) h = let a = e x h.0 in let b = each_none P f e xs h.1 in cc

pub some_more : {X : Type 0} (P : X → Type 0) (f g : X → Bool) → ((x : X) → P x → f x ≡ true → g x ≡ true) → (xs : List X) → AllByRecursion P xs → some f xs ≡ true → some g xs ≡ true
some_more P f g e [] h k = k
some_more P f g e (x ∷ xs) h k =
    elim (or_cases (f x) (some f xs) k) [ inl a ↦ or_left (g x) (some g xs) (e x h.0 a) | inr b ↦ or_right (g x) (some g xs) (some_more P f g e xs h.1 b) ]

-- counting
pub upto_mono : (f : ℕ → Bool) (m n : ℕ) → m ≤ n → upto f m ≤ upto f n
upto_mono f m zero h = let e : m ≡ 0 = omega arith in rw e (omega arith)
upto_mono f m (suc n) h = elim (eqb_or m (suc n)) [ inl e ↦ rw e (omega arith) | inr d ↦ let k = upto_mono f m n (omega arith) in omega arith ]
  where
    eqb_or : (a b : ℕ) → (a ≡ b) ⊎ (a ≡ b → ⊥)
    eqb_or a b = Rattle.std.proofs.lemmas.Bool.cases_eq a b

pub rank_mono : (f : ℕ → Bool) (m n : ℕ) → m ≤ n → rank f m ≤ rank f n
rank_mono f zero n h = omega arith
rank_mono f (suc m) zero h = omega arith
rank_mono f (suc m) (suc n) h = let k = upto_mono f m n (omega arith) in omega arith

pub rank_strict : (f : ℕ → Bool) (m n : ℕ) → f (suc m) ≡ true → suc m < n → rank f (suc m) < rank f n
rank_strict f m zero e h = omega arith
rank_strict f m (suc n) e h = let k = upto_mono f (suc m) n (omega arith) in let j : upto f (suc m) ≡ upto f m + 1 = rw e refl in omega arith

pub top_le : (t : ℕ) (ps : List Part) → AllByRecursion (λ p. p.rest ≤ t) ps → top ps ≤ t
top_le t [] h = omega arith
top_le t (p ∷ ps) h = let a = top_le t ps h.1 in omega arith

pub top_ge : (t : ℕ) (ps : List Part) → seen ps t ≡ true → t ≤ top ps
top_ge t [] k = grind arith
top_ge t (p ∷ ps) k =
    elim (or_cases (eqb p.rest t) (seen ps t) k) [ inl a ↦ let e = eqb-true p.rest t a in omega arith | inr b ↦ let e = top_ge t ps b in omega arith ]

pub top_is : (t : ℕ) (ps : List Part) → AllByRecursion (λ p. p.rest ≤ t) ps → seen ps t ≡ true → top ps ≡ t
top_is t ps h k = let a = top_le t ps h in let b = top_ge t ps k in omega arith

-- each rest is seen
pub seen_each : (ps : List Part) → AllByRecursion (λ p. seen ps p.rest ≡ true) ps
seen_each ps = go ps (λ v h. h)
  where
    go : (qs : List Part) → ((v : ℕ) → seen qs v ≡ true → seen ps v ≡ true) → AllByRecursion (λ p. seen ps p.rest ≡ true) qs
    go [] e = tt
    go (q ∷ qs) e = (
      e q.rest (or_left (eqb q.rest q.rest) (seen qs q.rest) (eq-eqb q.rest q.rest refl)),
      go qs (λ v h. e v (or_right (eqb q.rest v) (seen qs v) h)),
    )

pub all_both : {X : Type 0} (P Q : X → Type 0) (xs : List X) → AllByRecursion P xs → AllByRecursion Q xs → AllByRecursion (λ x. P x × Q x) xs
all_both P Q [] h k = tt
all_both P Q (x ∷ xs) h k = ((h.0, k.0), all_both P Q xs h.1 k.1)

pub all_any : {X : Type 0} (P : X → Type 0) → ((x : X) → P x) → (xs : List X) → AllByRecursion P xs
all_any P e [] = tt
all_any P e (x ∷ xs) = (e x, all_any P e xs)
