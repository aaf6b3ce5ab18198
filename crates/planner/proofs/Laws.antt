-- Prices and orders are those of the walk.
use Rattle.std.proofs.Common.{◌≡◌, ℕ, ◌+◌, ◌-◌, ◌*◌, List, [], ◌∷◌, refl, ap, arith}
use Rattle.entry.specs.Rules.{Net}
use Rattle.source.specs.Meaning.{Priced}
use Rattle.walk.specs.declared.letter.Letter.{Letter}
use Rattle.walk.specs.declared.letter.Letter.TheVariants.{L, R}
use Rattle.walk.specs.Numbered.{letters}
use Rattle.planner.specs.Orders.{price_of_letter, price_of_letters}
use Rattle.planner.specs.Laws.{counted, CountedPrice, AllowedCompletes}

letters_are : (M : Priced) (r : Net) (i j : ℕ) (ls : List Letter) → letters M r i j ls ≡ price_of_letters (counted M r) i j ls
letters_are M r i j [] = refl
letters_are M r i j (L ∷ ls) = ap (λ x. price_of_letter (counted M r) i j L + x) (letters_are M r (i - 1) j ls)
letters_are M r i j (R ∷ ls) = ap (λ x. price_of_letter (counted M r) i j R + x) (letters_are M r i (j + 1) ls)

pub counted-price : CountedPrice
counted-price M r o = ap (λ x. (M.boxes + 1) * (counted M r).look o.seed + x) (letters_are M r o.seed o.seed o.letters)

pub allowed-completes : AllowedCompletes
allowed-completes t r o e = (
  λ a. record { left = a.left; right = omega (arith, a.right) },
  λ c. record { some = omega (arith, c.left); left = c.left; right = omega (arith, c.right) },
)
