-- A test of the numbers 1 to n.
use Rattle.std.proofs.Common.{◌≡◌, ℕ, ◌-◌, ◌<◌, ◌≤◌, Bool, true, false, get_or, sym, refl, ap, ◌∙◌, true≢false, arith}
use Rattle.std.proofs.lemmas.List.Folds.{list_any_at, list_any_none}
use Rattle.std.proofs.lemmas.List.FromFn.{get_or-range_with_len, length-range_with_len}
use Rattle.std.specs.List.{list_any, range_with_len}

module _ (test : ℕ → Bool) where
  pub any_at : (n k : ℕ) → 1 ≤ k → k ≤ n → test k ≡ true → list_any test (range_with_len 1 n) ≡ true
  any_at n k some le e =
      let lt : k - 1 < n = omega arith in
      let is : get_or (range_with_len 1 n) (k - 1) 0 ≡ k = omega (arith, get_or-range_with_len 1 n (k - 1) 0 lt) in
      list_any_at test (range_with_len 1 n) (k - 1) 0 (omega (arith, length-range_with_len 1 n)) (ap test is ∙ e)

  pub none_at : (n k : ℕ) → 1 ≤ k → k ≤ n → list_any test (range_with_len 1 n) ≡ false → test k ≡ false
  none_at n k some le none = go (test k) refl
    where
      go : (b : Bool) → test k ≡ b → test k ≡ false
      go false e = e
      go true e = absurd (true≢false (sym (any_at n k some le e) ∙ none))

  pub none_pass : ((k : ℕ) → test k ≡ false) → (n : ℕ) → list_any test (range_with_len 1 n) ≡ false
  none_pass off n = list_any_none test (range_with_len 1 n) (λ i d lt. off (get_or (range_with_len 1 n) i d))
