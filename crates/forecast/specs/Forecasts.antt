-- What a forecast holds, and why one is not made from a length and numbers.
use Rattle.std.specs.Prelude.{ℕ, Bool, List, None, Option, nat_lt}
use Rattle.std.specs.List.{list_any, range_with_len}
use Rattle.refusal.specs.Checks.{refuse}
use Rattle.refusal.specs.declared.Refusal.{Refusal}
use Rattle.refusal.specs.declared.Refusal.TheVariants.{SourceTooLong, ForecastTooLarge}
use Rattle.forecast.specs.Runs.{number_at}
use Rattle.forecast.specs.declared.value.Forecast.{Forecast}

abbrev pub boxes_of : Forecast → ℕ
boxes_of f = f.boxes

-- `forecast_at f i j`    F(i, j)
abbrev pub forecast_at : Forecast → ℕ → ℕ → ℕ
forecast_at f i j = number_at f.runs i j

-- the numbers that a motif may have
abbrev pub numbers : List ℕ
numbers = range_with_len 1 12

-- `is_row_large F`       one of F 1 to F 12 is above 1,000,000,000
abbrev pub is_row_large : (ℕ → ℕ) → Bool
is_row_large F = list_any (λ j. nat_lt 1_000_000_000 (F j)) numbers

abbrev pub is_some_large : (ℕ → ℕ → ℕ) → Bool
is_some_large F = list_any (λ i. is_row_large (F i)) numbers

abbrev pub forecast_fault : ℕ → (ℕ → ℕ → ℕ) → Option Refusal
forecast_fault boxes F = refuse (nat_lt 20000 boxes) SourceTooLong (refuse (is_some_large F) ForecastTooLarge None)
