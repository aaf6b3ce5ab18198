-- The letters that best take a run to the whole rule, and how they come from those of the longer runs.
use Rattle.std.proofs.Common.{◌≡◌, ℕ, ◌+◌, ◌-◌, ◌<◌, ◌≤◌, ◌⊎◌, List, [], ◌∷◌, refl, ap, subst, inl, inr, ⊎_elim, eq-or-lt_of_le, arith}
use Rattle.walk.specs.declared.letter.Letter.{Letter}
use Rattle.walk.specs.declared.letter.Letter.TheVariants.{L, R}
use Rattle.planner.specs.Orders.{Terms, Completes, price_of_letter, price_of_letters}
use Rattle.planner.specs.Runs.{Can, first_after, last_after}
use Rattle.planner.specs.Best.{Better, Best, Least, Leads}
use Rattle.planner.proofs.Steps.{earlier-cons, price-cons, then, completes-cons, unfinished}

module _ {t : Terms} {i j : ℕ} where
  pub least : {ls : List Letter} → Best t i j ls → (ms : List Letter) → Completes t i j ms → price_of_letters t i j ls ≤ price_of_letters t i j ms
  least {ls} b ms c = go (b.before ms c)
    where
      go : (ls ≡ ms) ⊎ Better t i j ls ms → price_of_letters t i j ls ≤ price_of_letters t i j ms
      go (inl e) = omega (arith, ap (price_of_letters t i j) e)
      go (inr (inl h)) = omega arith
      go (inr (inr h)) = omega arith

  pub same-price : {ls ms : List Letter} → Best t i j ls → Best t i j ms → price_of_letters t i j ls ≡ price_of_letters t i j ms
  same-price {ls} {ms} b d = omega (arith, least b ms d.completes, least d ls b.completes)

  -- the letter x first, where no way that begins with another is before it
  pub first : (x : Letter) {ls : List Letter} → Can t.motifs i j x → Best t (first_after i x) (last_after j x) ls → ((y : Letter) (ms : List Letter) → Completes t i j (y ∷ ms) → (x ≡ y) ⊎ Better t i j (x ∷ ls) (y ∷ ms)) → Best t i j (x ∷ ls)
  first x {ls} may b other = record { completes = completes-cons t i j x ls may b.completes; before = go }
    where
      step : (ms : List Letter) → (ls ≡ ms) ⊎ Better t (first_after i x) (last_after j x) ls ms → (◌≡◌ {A = List Letter} (x ∷ ls) (x ∷ ms)) ⊎ Better t i j (x ∷ ls) (x ∷ ms)
      step ms (inl e) = inl (ap (λ (xs : List Letter). x ∷ xs) e)
      step ms (inr (inl h)) = inr (inl (omega (arith, price-cons t i j x ls, price-cons t i j x ms)))
      step ms (inr (inr h)) = inr (inr (omega (arith, price-cons t i j x ls, price-cons t i j x ms, h.0), earlier-cons x ls ms h.1))

      same : (y : Letter) (ms : List Letter) → x ≡ y → Completes t i j (y ∷ ms) → (◌≡◌ {A = List Letter} (x ∷ ls) (y ∷ ms)) ⊎ Better t i j (x ∷ ls) (y ∷ ms)
      same y ms e = subst (λ z. Completes t i j (z ∷ ms) → (◌≡◌ {A = List Letter} (x ∷ ls) (z ∷ ms)) ⊎ Better t i j (x ∷ ls) (z ∷ ms)) e (λ c. step ms (b.before ms (then t i j x ms c)))

      go : (ms : List Letter) → Completes t i j ms → (◌≡◌ {A = List Letter} (x ∷ ls) ms) ⊎ Better t i j (x ∷ ls) ms
      go [] c = absurd (unfinished t i j x may c)
      go (y ∷ ms) c = ⊎_elim (λ e. same y ms e c) inr (other y ms c)

-- the whole rule wants no letter
pub whole : {t : Terms} {i j : ℕ} → i ≡ 1 → j ≡ t.motifs → Best t i j []
whole {t} {i} {j} e h = record { completes = record { left = omega arith; right = omega arith }; before = go }
  where
    go : (ms : List Letter) → Completes t i j ms → (◌≡◌ {A = List Letter} [] ms) ⊎ Better t i j [] ms
    go [] c = inl refl
    go (L ∷ ms) c = absurd (omega (arith, c.left))
    go (R ∷ ms) c = absurd (omega (arith, c.right))

module _ (t : Terms) (i j : ℕ) (x : Letter) where
  pub led : {b c : ℕ} → Leads t i j x c → Least t (first_after i x) (last_after j x) b → Least t i j c
  led h l = let p = h.1 l.letters l.best in record { letters = x ∷ l.letters; best = p.0; cost = p.1 }

  -- the price of each way, from the least price once its first letter is taken
  at_best : {b : ℕ} (ls : List Letter) → Least t (first_after i x) (last_after j x) b → Best t (first_after i x) (last_after j x) ls → price_of_letters t i j (x ∷ ls) ≡ price_of_letter t i j x + b
  at_best ls l b = omega (arith, price-cons t i j x ls, same-price l.best b, l.cost)

  pub at_least : {b : ℕ} (ms : List Letter) → Least t (first_after i x) (last_after j x) b → Completes t i j (x ∷ ms) → price_of_letter t i j x + b ≤ price_of_letters t i j (x ∷ ms)
  at_least ms l c = omega (arith, price-cons t i j x ms, least l.best ms (then t i j x ms c), l.cost)

module _ (t : Terms) (i j : ℕ) {b p : ℕ} where
  -- p is the price of the best way that begins with the letter, and no way that begins with the other is before it
  pub leads_L : Can t.motifs i j L → Least t (i - 1) j b → p ≡ price_of_letter t i j L + b → ((ms : List Letter) → Completes t i j (R ∷ ms) → p < price_of_letters t i j (R ∷ ms)) → Leads t i j L p
  leads_L may l e dearer = (may, λ ls best. (first L may best (other ls best), omega (arith, at_best t i j L ls l best)))
    where
      other : (ls : List Letter) → Best t (i - 1) j ls → (y : Letter) (ms : List Letter) → Completes t i j (y ∷ ms) → (L ≡ y) ⊎ Better t i j (L ∷ ls) (y ∷ ms)
      other ls best L ms c = inl refl
      other ls best R ms c = inr (inl (omega (arith, at_best t i j L ls l best, dearer ms c)))

  pub leads_R : Can t.motifs i j R → Least t i (j + 1) b → p ≡ price_of_letter t i j R + b → ((ms : List Letter) → Completes t i j (L ∷ ms) → p ≤ price_of_letters t i j (L ∷ ms)) → Leads t i j R p
  leads_R may l e no_cheaper = (may, λ ls best. (first R may best (other ls best), omega (arith, at_best t i j R ls l best)))
    where
      other : (ls : List Letter) → Best t i (j + 1) ls → (y : Letter) (ms : List Letter) → Completes t i j (y ∷ ms) → (R ≡ y) ⊎ Better t i j (R ∷ ls) (y ∷ ms)
      other ls best R ms c = inl refl
      other ls best L ms c =
          let le : price_of_letters t i j (R ∷ ls) ≤ price_of_letters t i j (L ∷ ms) = omega (arith, at_best t i j R ls l best, no_cheaper ms c) in
          inr (⊎_elim (λ e. inr (e, tt)) inl (eq-or-lt_of_le le))
