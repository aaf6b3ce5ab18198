-- What holds of the entries gone through so far, and of one more, and of all.
use Rattle.std.proofs.Common.{◌≡◌, ℕ, ◌+◌, ◌<◌, ◌≤◌, List, map, length, get_or, take, sym, subst}
use Rattle.std.proofs.ByRecursion.{All-push}
use Rattle.std.proofs.lemmas.List.{map_more, take_all}
use Rattle.std.specs.List.{AllByRecursion}

module _ {X Y : Type 0} (P : Y → Type 0) (f : X → Y) (xs : List X) (i : ℕ) where
  pub one_more : (x : X) → i < length xs → x ≡ get_or xs i x → AllByRecursion P (map f (take i xs)) → P (f x) → AllByRecursion P (map f (take (i + 1) xs))
  one_more x h e a p =
      subst (AllByRecursion P) (sym (map_more f xs i x h)) (All-push P (map f (take i xs)) (f (get_or xs i x)) a (subst (λ y. P (f y)) e p))

  pub all_done : length xs ≤ i → AllByRecursion P (map f (take i xs)) → AllByRecursion P (map f xs)
  all_done h a = subst (λ ys. AllByRecursion P (map f ys)) (take_all i xs h) a
