-- A letter after a run, whichever of the two it is.
use Rattle.std.proofs.Common.{◌≡◌, ℕ, ◌+◌, List, [], ◌∷◌, refl, arith}
use Rattle.walk.specs.declared.letter.Letter.{Letter}
use Rattle.walk.specs.declared.letter.Letter.TheVariants.{L, R}
use Rattle.planner.specs.Orders.{Terms, Completes, Earlier, price_of_letter, price_of_letters}
use Rattle.planner.specs.Runs.{Can, first_after, last_after}

pub earlier-cons : (x : Letter) (ls ms : List Letter) → Earlier ls ms → Earlier (x ∷ ls) (x ∷ ms)
earlier-cons L ls ms h = h
earlier-cons R ls ms h = h

module _ (t : Terms) (i j : ℕ) where
  pub price-cons : (x : Letter) (ls : List Letter) → price_of_letters t i j (x ∷ ls) ≡ price_of_letter t i j x + price_of_letters t (first_after i x) (last_after j x) ls
  price-cons L ls = refl
  price-cons R ls = refl

  pub can : (x : Letter) (ls : List Letter) → Completes t i j (x ∷ ls) → Can t.motifs i j x
  can L ls c = (omega (arith, c.left), omega (arith, c.right))
  can R ls c = omega (arith, c.right)

  pub then : (x : Letter) (ls : List Letter) → Completes t i j (x ∷ ls) → Completes t (first_after i x) (last_after j x) ls
  then L ls c = record { left = omega (arith, c.left); right = c.right }
  then R ls c = record { left = c.left; right = omega (arith, c.right) }

  pub completes-cons : (x : Letter) (ls : List Letter) → Can t.motifs i j x → Completes t (first_after i x) (last_after j x) ls → Completes t i j (x ∷ ls)
  completes-cons L ls may c = record { left = omega (arith, c.left, may.0); right = c.right }
  completes-cons R ls may c = record { left = c.left; right = omega (arith, c.right) }

  pub unfinished : (x : Letter) → Can t.motifs i j x → Completes t i j [] → ⊥
  unfinished L may c = omega (arith, may.0, c.left)
  unfinished R may c = omega (arith, may, c.right)
