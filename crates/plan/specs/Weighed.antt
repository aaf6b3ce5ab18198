-- The weighted forecast: what the weights of a rule's motifs make expect of each run, and what weigh answers.
use Rattle.std.specs.Prelude.{◌≡◌, ℕ, zero, suc, ◌+◌, ◌*◌, ◌/◌, ◌<◌, ◌≤◌, Bool, true, cond, ◌&&◌, ◌||◌, map, Some, None, Ok, Err, Option, Result, ◌==◌, nat_le, nat_lt, slice_index}
use Rattle.refusal.specs.Checks.{refuse}
use Rattle.refusal.specs.declared.Refusal.{Refusal}
use Rattle.refusal.specs.declared.Refusal.TheVariants.{SourceTooLong, ForecastTooLarge, UnknownRule}
use Rattle.entry.specs.Rules.{Net, width}
use Rattle.book.specs.Adding.{motifs_in}
use Rattle.book.specs.declared.values.book.Book.{Book}
use Rattle.rules.specs.Nets.{motifs}
use Rattle.walk.specs.Numbered.{motif, range}
use Rattle.forecast.specs.declared.runs.Runs.{Runs}
use Rattle.forecast.specs.declared.value.Forecast.{Forecast}
use Rattle.forecast.specs.Forecasts.{boxes_of, forecast_at, forecast_fault, is_some_large}
use Rattle.forecast.specs.Runs.{number_at}

-- `weight_in b k`    W of the motif with the number k
abbrev pub weight_in : Book → ℕ → ℕ
weight_in b k = slice_index (map (λ m. m.weight) (motifs_in b)) k

-- `expected w x`    at how many of x places a motif of the weight w is expected, rounded down
abbrev pub expected : ℕ → ℕ → ℕ
expected w x = x * w / 65536

-- F(i, i) from the n + 1 places of a row, and F(i, j) from F(i, j - 1) and the range j - 1; 0 before i
abbrev pub weighed_to : (ℕ → ℕ) → ℕ → Net → ℕ → ℕ → ℕ
weighed_to W n r i zero = 0
weighed_to W n r i (suc j) =
    cond (i == suc j) (expected (W (motif r i)) (n + 1)) (expected (W (motif r (suc j))) (weighed_to W n r i j * width (range r j)))

abbrev pub run_of : Net → ℕ → ℕ → Bool
run_of r i j = nat_le 1 i && (nat_le i j && nat_le j (motifs r))

-- `weighed W n r i j`  F(i, j) of the rule r, 0 where i to j is no run of it
abbrev pub weighed : (ℕ → ℕ) → ℕ → Net → ℕ → ℕ → ℕ
weighed W n r i j = cond (run_of r i j) (weighed_to W n r i j) 0

-- what weigh refuses by, of the rule that was asked for, if the book has it
abbrev pub weigh_fault : (ℕ → ℕ) → ℕ → Option Net → Option Refusal
weigh_fault W n None = refuse (nat_lt 20000 n) SourceTooLong (Some UnknownRule)
weigh_fault W n (Some r) = forecast_fault n (weighed W n r)

-- the forecast is the weighted one
abbrev pub Weighed : (ℕ → ℕ) → ℕ → Option Net → Forecast → Type 0
Weighed W n None f = ⊥
Weighed W n (Some r) f = (boxes_of f ≡ n) × ((i j : ℕ) → forecast_at f i j ≡ weighed W n r i j)

-- The rest is what the inner functions speak of.

-- every motif of the rule is one of `count`
abbrev pub Known : ℕ → Net → Type 0
Known count r = (i : ℕ) → 1 ≤ i → i ≤ motifs r → motif r i < count

-- a run that begins before `first`, or begins with it and ends before `last`
abbrev pub sooner : ℕ → ℕ → ℕ → ℕ → Bool
sooner first last i j = nat_lt i first || (i == first && nat_lt j last)

-- the table T has F of these runs, and else 0
pub record Begun (F T : ℕ → ℕ → ℕ) (first last : ℕ) : Type 0 where
  pub cells : (i j : ℕ) → T i j ≡ cond (sooner first last i j) (F i j) 0
  pub small : (i j : ℕ) → T i j ≤ 1_000_000_000

abbrev pub RunsWeighed : (ℕ → ℕ → ℕ) → Result Runs Refusal → Type 0
RunsWeighed F (Ok runs) = ((i j : ℕ) → number_at runs i j ≡ F i j) × ((i j : ℕ) → F i j ≤ 1_000_000_000)
RunsWeighed F (Err e) = (e ≡ ForecastTooLarge) × (is_some_large F ≡ true)
