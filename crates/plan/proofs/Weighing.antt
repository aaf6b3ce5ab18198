-- One run after another of the weighted forecast.
use Rattle.std.proofs.Common.{◌≡◌, ℕ, suc, ◌+◌, ◌-◌, ◌*◌, ◌/◌, ◌<◌, ◌≤◌, Bool, true, false, cond, eqb, ltb, sym, refl, ap, ◌∙◌, ap₂, arith}
use Rattle.std.proofs.lemmas.Bool.Decides.{nat_tests}
use Rattle.entry.specs.Rules.{Net, width}
use Rattle.rules.specs.Nets.{motifs}
use Rattle.walk.specs.Numbered.{motif, range}
use Rattle.forecast.specs.Forecasts.{is_row_large, is_some_large}
use Rattle.forecast.proofs.Tests.{any_at}
use Rattle.plan.specs.Weighed.{expected, run_of, weighed, weighed_to}

module _ (W : ℕ → ℕ) (n : ℕ) (r : Net) where
  a_run : (i j : ℕ) → 1 ≤ i → i ≤ j → j ≤ motifs r → run_of r i j ≡ true
  a_run i j some le within = grind (arith, nat_tests)

  at_run : (i j : ℕ) → 1 ≤ i → i ≤ j → j ≤ motifs r → weighed W n r i j ≡ weighed_to W n r i j
  at_run i j some le within = ap (λ (b : Bool). cond b (weighed_to W n r i j) 0) (a_run i j some le within)

  -- a run of one motif
  alone : (i k : ℕ) → i ≡ suc k → expected (W (motif r i)) (n + 1) ≡ weighed_to W n r i (suc k)
  alone i k e =
      let is : eqb i (suc k) ≡ true = grind (arith, nat_tests) in
      sym (ap (λ (b : Bool). cond b (expected (W (motif r i)) (n + 1)) (expected (W (motif r (suc k))) (weighed_to W n r i k * width (range r k)))) is)

  pub weigh_first : (i j w : ℕ) → 1 ≤ i → i ≡ j → j ≤ motifs r → w ≡ W (motif r j) → (n + 1) * w / 65536 ≡ weighed W n r i j
  weigh_first i j w some e within is =
      let k = j - 1 in
      let q : suc k ≡ j = omega arith in
      ap (λ w. expected w (n + 1)) is ∙ ap (λ x. expected (W (motif r x)) (n + 1)) (sym e) ∙ alone i k (omega arith) ∙ ap (weighed_to W n r i) q ∙ sym (at_run i j some (omega arith) within)

  -- a run of several
  joined : (i k : ℕ) → i ≤ k → expected (W (motif r (suc k))) (weighed_to W n r i k * width (range r k)) ≡ weighed_to W n r i (suc k)
  joined i k le =
      let is : eqb i (suc k) ≡ false = grind (arith, nat_tests) in
      sym (ap (λ (b : Bool). cond b (expected (W (motif r i)) (n + 1)) (expected (W (motif r (suc k))) (weighed_to W n r i k * width (range r k)))) is)

  pub weigh_next : (i j f g w : ℕ) → 1 ≤ i → i < j → j ≤ motifs r → f ≡ weighed W n r i (j - 1) → g ≡ width (range r (j - 1)) → w ≡ W (motif r j) → f * g * w / 65536 ≡ weighed W n r i j
  weigh_next i j f g w some lt within before wide is =
      let k = j - 1 in
      let q : suc k ≡ j = omega arith in
      ap₂ (λ x w. expected w x) (ap₂ ◌*◌ before wide) is
      ∙ ap₂ (λ x F. expected (W (motif r x)) (F * width (range r k))) (sym q) (at_run i k some (omega arith) (omega arith))
      ∙ joined i k (omega arith) ∙ ap (weighed_to W n r i) q ∙ sym (at_run i j some (omega arith) within)

  pub no_run : (i j : ℕ) → (1 ≤ i → i ≤ j → j ≤ motifs r → ⊥) → weighed W n r i j ≡ 0
  no_run i j not = go (run_of r i j) refl
    where
      go : (b : Bool) → run_of r i j ≡ b → weighed W n r i j ≡ 0
      go false e = ap (λ (b : Bool). cond b (weighed_to W n r i j) 0) e
      go true e =
          let a : 1 ≤ i = grind (arith, nat_tests) in
          let b : i ≤ j = grind (arith, nat_tests) in
          let c : j ≤ motifs r = grind (arith, nat_tests) in
          absurd (not a b c)

-- a number above 1,000,000,000 is enough
pub large : (F : ℕ → ℕ → ℕ) (i j : ℕ) → 1 ≤ i → i ≤ j → j ≤ 12 → 1_000_000_000 < F i j → is_some_large F ≡ true
large F i j some le within over =
    let cell : ltb 1_000_000_000 (F i j) ≡ true = grind (arith, nat_tests) in
    any_at (λ i. is_row_large (F i)) 12 i some (omega arith) (any_at (λ j. ltb 1_000_000_000 (F i j)) 12 j (omega arith) within cell)
