-- The cells of a table of runs.
use Rattle.std.proofs.Common.{◌≡◌, ℕ, ◌-◌, ◌<◌, ◌≤◌, Bool, true, false, cond, ltb, eqb, ◌&&◌, List, length, get_or, replicate, set, Some, None, [], sym, refl, ap, ◌∙◌, ap₂, subst, arith}
use Rattle.std.proofs.lemmas.Grind.{common_steps}
use Rattle.std.proofs.lemmas.List.{get_or-replicate}
use Rattle.std.proofs.lemmas.Bool.Decides.{nat_tests}
use Rattle.forecast.specs.declared.runs.Runs.{Runs}
use Rattle.forecast.specs.Runs.{is_run, number_at, Put}
use Rattle.forecast.specs.Forecasts.{is_row_large, is_some_large, forecast_fault}
use Rattle.forecast.proofs.Tests.{none_at, none_pass}
use Rattle.refusal.specs.Checks.{refuse}
use Rattle.refusal.specs.declared.Refusal.TheVariants.{SourceTooLong, ForecastTooLarge}

module _ (r : Runs) (i j : ℕ) where
  off_run : is_run i j ≡ false → number_at r i j ≡ 0
  off_run e = ap (λ (b : Bool). cond b (get_or (get_or r.rows (i - 1) []) (j - 1) 0) 0) e

  -- where each run's number is 0, or none is too large, that holds of any two numbers
  by_runs : (P : ℕ → Type 0) → P 0 → (1 ≤ i → i ≤ j → j ≤ 12 → P (number_at r i j)) → P (number_at r i j)
  by_runs P off on = go (is_run i j) refl
    where
      go : (b : Bool) → is_run i j ≡ b → P (number_at r i j)
      go false e = subst P (sym (off_run e)) off
      go true e = on (grind (arith, nat_tests)) (grind (arith, nat_tests)) (grind (arith, nat_tests))

pub all_zero : (r : Runs) → r.rows ≡ replicate 12 (replicate 12 0) → (i j : ℕ) → number_at r i j ≡ 0
all_zero r is i j = by_runs r i j (λ n. n ≡ 0) refl (λ some ordered within. read i j some ordered within ∙ cell some ordered within)
  where
    read : (i j : ℕ) → 1 ≤ i → i ≤ j → j ≤ 12 → number_at r i j ≡ get_or (get_or r.rows (i - 1) []) (j - 1) 0
    read i j some ordered within = grind (arith, nat_tests)

    cell : 1 ≤ i → i ≤ j → j ≤ 12 → get_or (get_or r.rows (i - 1) []) (j - 1) 0 ≡ 0
    cell some ordered within =
        ap (λ (rows : List (List ℕ)). get_or (get_or rows (i - 1) []) (j - 1) 0) is
        ∙ ap (λ (row : List ℕ). get_or row (j - 1) 0) (get_or-replicate 12 (i - 1) (replicate 12 0) [] (omega arith))
        ∙ get_or-replicate 12 (j - 1) 0 0 (omega arith)

-- where no run's number is too large, none of the table is
pub all_small : (r : Runs) → is_some_large (number_at r) ≡ false → (i j : ℕ) → number_at r i j ≤ 1_000_000_000
all_small r none i j = by_runs r i j (λ n. n ≤ 1_000_000_000) (omega arith) cell
  where
    cell : 1 ≤ i → i ≤ j → j ≤ 12 → number_at r i j ≤ 1_000_000_000
    cell some ordered within =
        let row = none_at (λ i. is_row_large (number_at r i)) 12 i some (omega arith) none in
        let here : ltb 1_000_000_000 (number_at r i j) ≡ false = none_at (λ j. ltb 1_000_000_000 (number_at r i j)) 12 j (omega arith) within row in
        grind (arith, nat_tests)

-- the cells of a table once a row of it is replaced
cell_set : (rows : List (List ℕ)) (row : List ℕ) (a b n c d : ℕ) → a < length rows → ((k : ℕ) → get_or row k 0 ≡ cond (eqb k b) n (get_or (get_or rows a []) k 0)) → get_or (get_or (set rows a row) c []) d 0 ≡ cond (eqb c a && eqb d b) n (get_or (get_or rows c []) d 0)
cell_set rows row a b n c d within cells = let cell = cells d in grind (arith, common_steps, nat_tests)

pub put_run : (before after : Runs) (i j n : ℕ) (row : List ℕ) → is_run i j ≡ true → after.rows ≡ set before.rows (i - 1) row → i - 1 < length before.rows → ((k : ℕ) → get_or row k 0 ≡ cond (eqb k (j - 1)) n (get_or (get_or before.rows (i - 1) []) k 0)) → Put i j n before after
put_run before after i j n row run is within cells k l =
    let cell : get_or (get_or after.rows (k - 1) []) (l - 1) 0 ≡ cond (eqb (k - 1) (i - 1) && eqb (l - 1) (j - 1)) n (get_or (get_or before.rows (k - 1) []) (l - 1) 0) =
    ap (λ (rows : List (List ℕ)). get_or (get_or rows (k - 1) []) (l - 1) 0) is ∙ cell_set before.rows row (i - 1) (j - 1) n (k - 1) (l - 1) within cells in
    grind (arith, nat_tests)

pub too_long : (boxes : ℕ) (F : ℕ → ℕ → ℕ) → 20000 < boxes → Some SourceTooLong ≡ forecast_fault boxes F
too_long boxes F h =
    let long : ltb 20000 boxes ≡ true = grind (arith, nat_tests) in
    sym (ap (λ (x : Bool). refuse x SourceTooLong (refuse (is_some_large F) ForecastTooLarge None)) long)

-- a short row with small numbers is forecast
pub faultless : (b : ℕ) (F : ℕ → ℕ → ℕ) → b ≤ 20000 → ((i j : ℕ) → F i j ≤ 1_000_000_000) → forecast_fault b F ≡ None
faultless b F short small =
    ap₂ (λ (x y : Bool). refuse x SourceTooLong (refuse y ForecastTooLarge None)) in_length in_size
  where
    in_length : ltb 20000 b ≡ false
    in_length = grind (arith, nat_tests)

    cell : (i j : ℕ) → ltb 1_000_000_000 (F i j) ≡ false
    cell i j = let h = small i j in grind (arith, nat_tests)

    in_size : is_some_large F ≡ false
    in_size = none_pass (λ i. is_row_large (F i)) (λ i. none_pass (λ j. ltb 1_000_000_000 (F i j)) (cell i) 12) 12
