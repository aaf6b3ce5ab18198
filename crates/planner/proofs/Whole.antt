-- The first best seed, followed by the best letters, is the planned order.
use Rattle.std.proofs.Common.{◌≡◌, ℕ, ◌+◌, ◌<◌, ◌≤◌, ◌⊎◌, List, sym, ap, subst, inl, inr, ⊎_elim, eq-or-lt_of_le, arith}
use Rattle.std.proofs.lemmas.Bool.{cases_order}
use Rattle.walk.specs.declared.letter.Letter.{Letter}
use Rattle.planner.specs.Orders.{Terms, Completes, Before, IsPlanned, price}
use Rattle.planner.specs.Best.{Best, Better, Filled, Chosen, start}
use Rattle.planner.proofs.Best.{least, same-price}

module _ (t : Terms) (costs : ℕ → ℕ → ℕ) (s p : ℕ) (ls : List Letter) (filled : Filled t costs) (chosen : Chosen t costs (t.motifs + 1) s p) (best : Best t s s ls) where
  price_is : price t s ls ≡ start t costs s
  price_is =
      let k = filled s s chosen.some (omega arith) (omega (arith, chosen.within)) in
      omega (arith, same-price best k.least.best, k.least.cost)

  module _ (u : ℕ) (ms : List Letter) (a : Completes t u u ms) where
    some : 1 ≤ u
    some = omega (arith, a.left)

    within : u < t.motifs + 1
    within = omega (arith, a.right)

    above : start t costs u ≤ price t u ms
    above = let k = filled u u some (omega arith) (omega (arith, within)) in omega (arith, least k.least.best ms a, k.least.cost)

    Answer : Type 0
    Answer = ((s ≡ u) × (ls ≡ ms)) ⊎ Before t s ls u ms

    same : u ≡ s → Answer
    unfolding Answer
    same e = go (best.before ms (subst (λ x. Completes t x x ms) e a))
      where
        other : price t u ms ≡ price t s ms
        other = ap (λ x. price t x ms) e

        go : (ls ≡ ms) ⊎ Better t s s ls ms → Answer
        go (inl q) = inl (sym e, q)
        go (inr (inl h)) = inr (inl (omega (arith, other)))
        go (inr (inr h)) = inr (inr (omega (arith, other), inr (sym e, h.1)))

    after : s < u → Answer
    unfolding Answer
    after h = ⊎_elim (λ q. inr (inr (q, inl h))) (λ q. inr (inl q)) (eq-or-lt_of_le le)
      where
        le : price t s ls ≤ price t u ms
        le = omega (arith, price_is, above, chosen.least u some within)

    before : u < s → Answer
    unfolding Answer
    before h = inr (inl (omega (arith, price_is, above, chosen.first u some h)))

    answer : Answer
    answer = ⊎_elim same (⊎_elim before after) (cases_order u s)

  pub planned : IsPlanned t s ls p
  unfolding Answer
  planned = record { allowed = best.completes; priced = omega (arith, price_is, chosen.priced); before = answer }
