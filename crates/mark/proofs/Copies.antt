-- Keys say what the marks say that they were made of, in either order. Assumes nothing.
use Rattle.std.proofs.Common.{◌≡◌, ℕ, ◌+◌, ◌<◌, ◌≤◌, Bool, true, false, ◌&&◌, ◌||◌, eqb, List, [], ◌∷◌, ◌++◌, map, length, get_or, take, sym, refl, ap, ◌∙◌}
use Rattle.std.specs.List.{list_any}
use Rattle.std.specs.List.Sorted.{IsPermutation}
use Rattle.std.proofs.lemmas.List.{map_more, take_all}
use Rattle.std.proofs.lemmas.List.Sorted.{list_any-IsPermutation}
use Rattle.entry.specs.declared.mark.Mark.{Mark}
use Rattle.mark.specs.declared.key.Key.{Key}
use Rattle.mark.specs.Keys.{any_key, end_key, is_key, start_key}
use Rattle.mark.specs.Marks.{any_mark, is_mark}

pub any_start : (ms : List Mark) (k a b : ℕ) → list_any (λ m. is_key (start_key m) k a b) ms ≡ any_mark ms k a b
any_start [] k a b = refl
any_start (m ∷ ms) k a b = ap (λ t. is_mark m k a b || t) (any_start ms k a b)

and_turned : (x y : Bool) → (x && y) ≡ (y && x)
and_turned true true = refl
and_turned true false = refl
and_turned false true = refl
and_turned false false = refl

any_turned : (ms : List Mark) (k a b : ℕ) → any_key (map end_key ms) k b a ≡ any_mark ms k a b
any_turned [] k a b = refl
any_turned (m ∷ ms) k a b = λ i. (eqb m.motif k && and_turned (eqb m.end b) (eqb m.start a) i) || any_turned ms k a b i

-- the keys of the first i marks, one more of them, and all
abbrev pub Keyed : List Mark → ℕ → List Key → Type 0
Keyed ms i xs = xs ≡ map end_key (take i ms)

pub keyed_more : (ms : List Mark) (i : ℕ) (d : Mark) (xs ys : List Key) (x : Key) → i < length ms → Keyed ms i xs → x ≡ end_key (get_or ms i d) → ys ≡ xs ++ x ∷ [] → Keyed ms (i + 1) ys
keyed_more ms i d xs ys x h k e f = let m = map_more end_key ms i d h in cc

pub keyed_all : (ms : List Mark) (i : ℕ) (xs : List Key) → length ms ≤ i → Keyed ms i xs → xs ≡ map end_key ms
keyed_all ms i xs h k = k ∙ ap (map end_key) (take_all i ms h)

-- keys by end that were shuffled
pub ends_say : (ms : List Mark) (ends sorted : List Key) → ends ≡ map end_key ms → IsPermutation ends sorted → (k a b : ℕ) → any_key sorted k b a ≡ any_mark ms k a b
ends_say ms ends sorted made moved k a b = sym (list_any-IsPermutation (λ x. is_key x k b a) ends sorted moved) ∙ ap (λ xs. any_key xs k b a) made ∙ any_turned ms k a b
