-- What a sink takes of texts one behind the other, and of a list of texts item by item.
use Rattle.std.proofs.Common.{◌≡◌, ℕ, ◌+◌, ◌<◌, List, [], ◌∷◌, ◌++◌, map, length, get_or, take, decimal, Ok, Err, Result, refl, ap, arith}
use Rattle.std.proofs.lemmas.List.{length-append}
use Rattle.std.proofs.lemmas.List.Folds.{length-flat_map-take}
use Rattle.std.specs.List.{flat_map}
use Rattle.refusal.specs.declared.Refusal.{Refusal}
use Rattle.lines.specs.Lines.{commaed}
use Rattle.lines.specs.Sinks.{Puts}

module _ {S : Type 0} (room : S → ℕ) (took : S → List ℕ → S → Type 0) (rest : (s t : S) (a : List ℕ) → took s a t → room t + length a ≡ room s) where
  -- one text was taken, and another is put behind it
  pub puts-puts : ((s t u : S) (a b : List ℕ) → took s a t → took t b u → took s (a ++ b) u) → (s t u : S) (a b : List ℕ) (r : Result (Unit {0}) Refusal) → took s a t → Puts room took t b r u → Puts room took s (a ++ b) r u
  puts-puts both s t u a b (Ok _) p q = both s t u a b p q
  puts-puts both s t u a b (Err e) p q = (q.0, omega (arith, rest s t a p, length-append a b, q.1))

-- the texts of i items left too little room for the next one: so it is for them all
pub all_short : {X : Type 0} (T : X → List ℕ) (xs : List X) (i room left : ℕ) (x d : X) → i < length xs → x ≡ get_or xs i d → left + length (flat_map T (take i xs)) ≡ room → left < length (T x) → room < length (flat_map T xs)
all_short T xs i room left x d h e l short =
    omega (arith, length-flat_map-take T xs i d h, ap (λ y. length (T y)) e)

pub commaed-numbers : (ns : List ℕ) → commaed (map decimal ns) ≡ flat_map (λ n. 44 ∷ decimal n) ns
commaed-numbers [] = refl
commaed-numbers (n ∷ ns) = ap (λ t. (44 ∷ decimal n) ++ t) (commaed-numbers ns)
