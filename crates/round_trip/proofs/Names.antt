-- Entries in the midst of a list: what is known of each, and that its name is free among those before it.
use Rattle.std.proofs.Common.{◌≡◌, ℕ, ◌<◌, Bool, true, false, not, List, [], ◌∷◌, ◌++◌, map, length, sym, refl, ap, ◌∙◌, subst, arith, length-append}
use Rattle.std.proofs.lemmas.Slice.Eq.{bytes_eq-Decides}
use Rattle.std.proofs.lemmas.List.{map-append}
use Rattle.std.proofs.lemmas.Bool.{and_parts, both_ways, not-true, or_from, or_parts}
use Rattle.std.specs.List.{AllByRecursion}
use Rattle.std.specs.Str.{bytes_eq}
use Rattle.std.specs.List.{list_any}
use Rattle.book.specs.Entries.{distinct}
use Rattle.entry.specs.Named.{taken}
use Rattle.writing.proofs.Numbers.{not_same}

all_mid : {X : Type 0} (P : X → Type 0) (done : List X) (x : X) (rest : List X) → AllByRecursion P (done ++ x ∷ rest) → P x
all_mid P [] x rest a = a.0
all_mid P (d ∷ done) x rest a = all_mid P done x rest a.1

any_mid : {X : Type 0} (test : X → Bool) (done : List X) (x : X) (rest : List X) → list_any test (done ++ x ∷ rest) ≡ false → test x ≡ false
any_mid test [] x rest h = (or_parts (test x) (list_any test rest) h).0
any_mid test (d ∷ done) x rest h = any_mid test done x rest (or_parts (test d) (list_any test (done ++ x ∷ rest)) h).1

free_mid : (done : List (List ℕ)) (n : List ℕ) (rest : List (List ℕ)) → distinct (done ++ n ∷ rest) ≡ true → taken n done ≡ false
free_mid [] n rest d = refl
free_mid (m ∷ done) n rest d =
    let k = and_parts (not (taken m (done ++ n ∷ rest))) (distinct (done ++ n ∷ rest)) d in
    let other = any_mid (bytes_eq m) done n rest (not-true (taken m (done ++ n ∷ rest)) k.0) in
    or_from (bytes_eq n m) (taken n done) (not_same n m (λ e. both_ways (bytes_eq m n) other ((bytes_eq-Decides m n).1 (sym e)))) (free_mid done n rest k.1)

pub all_parts : {X : Type 0} (P : X → Type 0) (xs ys : List X) → AllByRecursion P (xs ++ ys) → AllByRecursion P xs × AllByRecursion P ys
all_parts P [] ys a = (tt, a)
all_parts P (x ∷ xs) ys a = let k = all_parts P xs ys a.1 in ((a.0, k.0), k.1)

pub all_unmap : {X Y : Type 0} (P : Y → Type 0) (f : X → Y) (xs : List X) → AllByRecursion P (map f xs) → AllByRecursion (λ x. P (f x)) xs
all_unmap P f [] a = tt
all_unmap P f (x ∷ xs) a = (a.0, all_unmap P f xs a.1)

-- x stands behind `done` among all
module _ {X : Type 0} (all done : List X) (x : X) (rest : List X) (e : done ++ x ∷ rest ≡ all) where
  pub holds : (P : X → Type 0) → AllByRecursion P all → P x
  holds P a = all_mid P done x rest (subst (AllByRecursion P) (sym e) a)

  pub fewer : length done < length all
  fewer = omega (arith, length-append done (x ∷ rest), ap length e)

  pub free : (name : X → List ℕ) → distinct (map name all) ≡ true → taken (name x) (map name done) ≡ false
  free name d = free_mid (map name done) (name x) (map name rest) (subst (λ ns. distinct ns ≡ true) (sym (ap (map name) e) ∙ map-append name done (x ∷ rest)) d)
