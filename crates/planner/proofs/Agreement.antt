-- Terms that say the same of a rule price and plan alike.
use Rattle.std.proofs.Common.{◌≡◌, ℕ, ◌+◌, ◌-◌, ◌*◌, ◌≤◌, ◌⊎◌, List, [], ◌∷◌, sym, refl, ◌∙◌, ap₂, inl, inr, arith}
use Rattle.walk.specs.declared.letter.Letter.{Letter}
use Rattle.walk.specs.declared.letter.Letter.TheVariants.{L, R}
use Rattle.planner.specs.Orders.{Terms, Completes, Before, IsPlanned, taking, price_of_letters, price}
use Rattle.planner.specs.Laws.{Agree, SamePrices, SamePlan}

module _ (t u : Terms) (same : Agree t u) where
  takings : (i k : ℕ) → 1 ≤ i → i ≤ t.motifs → 1 ≤ k → k + 1 ≤ t.motifs → taking t i k ≡ taking u i k
  takings i k some within over between =
      ap₂ ◌+◌ (same.opening i some within) (ap₂ ◌*◌ (same.width k over between) (same.look i some within))

  letters-agree : (i j : ℕ) (ls : List Letter) → i ≤ j → Completes t i j ls → price_of_letters t i j ls ≡ price_of_letters u i j ls
  letters-agree i j [] le c = refl
  letters-agree i j (L ∷ ls) le c =
      let low : 2 ≤ i = omega (arith, c.left) in
      let high : j ≤ t.motifs = omega (arith, c.right) in
      ap₂ ◌+◌ (ap₂ ◌*◌ (same.forecast i j (omega arith) le high) (takings (i - 1) (i - 1) (omega arith) (omega arith) (omega arith) (omega arith)))
      (letters-agree (i - 1) j ls (omega arith) (record { left = omega (arith, c.left); right = c.right }))
  letters-agree i j (R ∷ ls) le c =
      let low : 1 ≤ i = omega (arith, c.left) in
      let high : j + 1 ≤ t.motifs = omega (arith, c.right) in
      ap₂ ◌+◌ (ap₂ ◌*◌ (same.forecast i j low le (omega arith)) (takings (j + 1) j (omega arith) high (omega arith) high))
      (letters-agree i (j + 1) ls (omega arith) (record { left = c.left; right = omega (arith, c.right) }))

  prices_agree : (s : ℕ) (ls : List Letter) → Completes t s s ls → price t s ls ≡ price u s ls
  prices_agree s ls c =
      let low : 1 ≤ s = omega (arith, c.left) in
      let high : s ≤ t.motifs = omega (arith, c.right) in
      ap₂ ◌+◌ (ap₂ (λ n x. (n + 1) * x) same.boxes (same.look s low high)) (letters-agree s s ls (omega arith) c)

  module _ (s : ℕ) (ls : List Letter) (p : ℕ) (plan : IsPlanned t s ls p) where
    still : (v : ℕ) (ms : List Letter) → price t v ms ≡ price u v ms → ((s ≡ v) × (ls ≡ ms)) ⊎ Before t s ls v ms → ((s ≡ v) × (ls ≡ ms)) ⊎ Before u s ls v ms
    still v ms e (inl q) = inl q
    still v ms e (inr (inl h)) = inr (inl (omega (arith, e, prices_agree s ls plan.allowed)))
    still v ms e (inr (inr h)) = inr (inr (omega (arith, e, h.0, prices_agree s ls plan.allowed), h.1))

    back : (v : ℕ) (ms : List Letter) → Completes u v v ms → Completes t v v ms
    back v ms c = record { left = c.left; right = omega (arith, c.right, same.motifs) }

    planned_agrees : IsPlanned u s ls p
    planned_agrees =
        record {
          allowed = record { left = plan.allowed.left; right = omega (arith, plan.allowed.right, same.motifs) };
          priced = sym (prices_agree s ls plan.allowed) ∙ plan.priced;
          before = λ v ms c. still v ms (prices_agree v ms (back v ms c)) (plan.before v ms (back v ms c));
        }

pub same_prices : SamePrices
same_prices t u same s ls c = prices_agree t u same s ls c

pub same-plan : SamePlan
same-plan t u same s ls p plan = planned_agrees t u same s ls p plan
