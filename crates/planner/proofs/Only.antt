-- Of two orders that each come before every other, neither is another.
use Rattle.std.proofs.Common.{◌≡◌, ℕ, ◌⊎◌, List, [], ◌∷◌, sym, ◌∙◌, ap₂, inl, inr, arith}
use Rattle.walk.specs.declared.letter.Letter.{Letter}
use Rattle.walk.specs.declared.letter.Letter.TheVariants.{L, R}
use Rattle.planner.specs.Orders.{Terms, Before, Earlier, price}
use Rattle.planner.specs.Laws.{OnlyOne}

never_both : (ls ms : List Letter) → Earlier ls ms → Earlier ms ls → ⊥
never_both [] ms a b = a
never_both (L ∷ ls) [] a b = a
never_both (R ∷ ls) [] a b = a
never_both (L ∷ ls) (L ∷ ms) a b = never_both ls ms a b
never_both (L ∷ ls) (R ∷ ms) a b = a
never_both (R ∷ ls) (L ∷ ms) a b = b
never_both (R ∷ ls) (R ∷ ms) a b = never_both ls ms a b

module _ (t : Terms) (s u : ℕ) (ls ms : List Letter) where
  apart : Before t s ls u ms → Before t u ms s ls → ⊥
  apart (inl a) (inl b) = omega arith
  apart (inl a) (inr b) = omega (arith, b.0)
  apart (inr a) (inl b) = omega (arith, a.0)
  apart (inr (p, inl a)) (inr (q, inl b)) = omega arith
  apart (inr (p, inl a)) (inr (q, inr b)) = omega (arith, b.0)
  apart (inr (p, inr a)) (inr (q, inl b)) = omega (arith, a.0)
  apart (inr (p, inr a)) (inr (q, inr b)) = never_both ls ms a.1 b.1

  same : ((s ≡ u) × (ls ≡ ms)) ⊎ Before t s ls u ms → ((u ≡ s) × (ms ≡ ls)) ⊎ Before t u ms s ls → (u ≡ s) × (ms ≡ ls)
  same (inl e) y = (sym e.0, sym e.1)
  same (inr a) (inl e) = e
  same (inr a) (inr b) = absurd (apart a b)

pub only_one : OnlyOne
only_one t s ls c here u ms d there =
    let e = same t s u ls ms (here.before u ms there.allowed) (there.before s ls here.allowed) in
    (e.0, e.1, sym there.priced ∙ ap₂ (price t) e.0 e.1 ∙ here.priced)
