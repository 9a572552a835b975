-- Lists read one by one.
use Rattle.std.proofs.Common.{◌≡◌, ℕ, ◌<◌, List, length, get_or, Some, None, Option, sym, refl, Bor}
use Rattle.std.specs.Slice.{IsGetResult}
use Rattle.std.specs.Option.{option_map}
use Rattle.std.specs.List.{slice_get}
use Rattle.std.proofs.lemmas.Option.{slice_get_read, slice_get_past}

-- an element that is looked up
pub read_nth : {A : Type 0} (xs : List A) (i : ℕ) (x : A) → i < length xs → x ≡ get_or xs i x → Some x ≡ slice_get xs i
read_nth xs i x l e = sym (slice_get_read xs (length xs) i x refl l e)

pub item_nth : {A : Type 0} (xs : List A) (i : ℕ) (r : Option (Bor A)) → IsGetResult xs i i r → option_map (λ x. x.now) r ≡ slice_get xs i
item_nth xs i None h = sym (slice_get_past xs i h.3)
item_nth xs i (Some x) h = read_nth xs i x.now h.3.0 h.1
