-- The letters that best take a run to the whole rule: what the planner's inner functions speak of.
use Rattle.std.specs.Prelude.{◌≡◌, ℕ, ◌+◌, ◌-◌, ◌*◌, ◌<◌, ◌≤◌, ◌⊎◌, List, ◌∷◌, ◌++◌}
use Rattle.walk.specs.declared.letter.Letter.{Letter}
use Rattle.planner.specs.Orders.{Terms, Completes, Earlier, price_of_letters}
use Rattle.planner.specs.Runs.{Can, first_after, last_after}

abbrev pub Better : Terms → ℕ → ℕ → List Letter → List Letter → Type 0
Better t i j ls ms = (price_of_letters t i j ls < price_of_letters t i j ms) ⊎ ((price_of_letters t i j ls ≡ price_of_letters t i j ms) × Earlier ls ms)

pub record Best (t : Terms) (i j : ℕ) (ls : List Letter) : Type 0 where
  pub completes : Completes t i j ls
  pub before : (ms : List Letter) → Completes t i j ms → (ls ≡ ms) ⊎ Better t i j ls ms

-- c is the least price to go on from the run i to j
pub record Least (t : Terms) (i j c : ℕ) : Type 0 where
  pub letters : List Letter
  pub best : Best t i j letters
  pub cost : price_of_letters t i j letters ≡ c

-- x is the first letter of the best way on, at the price c
abbrev pub Leads : Terms → ℕ → ℕ → Letter → ℕ → Type 0
Leads t i j x c =
    Can t.motifs i j x
    × ((ls : List Letter) → Best t (first_after i x) (last_after j x) ls → Best t i j (x ∷ ls) × (price_of_letters t i j (x ∷ ls) ≡ c))

-- what a table says of the run once the letter is taken
abbrev pub once_taken : (ℕ → ℕ → ℕ) → ℕ → ℕ → Letter → ℕ
once_taken costs i j x = costs (first_after i x) (last_after j x)

-- the most that a letter can cost: a forecast of 1,000,000,000, an opening of 1,000 and 4,001 looks of 1,000
abbrev pub most : ℕ
most = 1_000_000_000 * 4_002_000

-- the table has the least price at the run i to j, which lacks i - 1 motifs on its left and motifs - j on its right
pub record Known (t : Terms) (costs : ℕ → ℕ → ℕ) (i j : ℕ) : Type 0 where
  pub least : Least t i j (costs i j)
  pub bound : costs i j ≤ most * (i - 1 + (t.motifs - j))

-- it has that at each run that a letter makes of the run i to j
abbrev pub Ahead : Terms → (ℕ → ℕ → ℕ) → ℕ → ℕ → Type 0
Ahead t costs i j = (x : Letter) → Can t.motifs i j x → Known t costs (first_after i x) (last_after j x)

-- it has that at each run that begins before `first`
abbrev pub Rows : Terms → (ℕ → ℕ → ℕ) → ℕ → Type 0
Rows t costs first = (i j : ℕ) → 1 ≤ i → i < first → i ≤ j → j ≤ t.motifs → Known t costs i j

-- and at each that begins at `first` and ends at `last` or after it
abbrev pub Row : Terms → (ℕ → ℕ → ℕ) → ℕ → ℕ → Type 0
Row t costs first last = (j : ℕ) → last ≤ j → j ≤ t.motifs → Known t costs first j

-- it has that at every run
abbrev pub Filled : Terms → (ℕ → ℕ → ℕ) → Type 0
Filled t costs = (i j : ℕ) → 1 ≤ i → i ≤ j → j ≤ t.motifs → Known t costs i j

-- the least price of an order with the seed s, by the table
abbrev pub start : Terms → (ℕ → ℕ → ℕ) → ℕ → ℕ
start t costs s = (t.boxes + 1) * t.look s + costs s s

-- s is the first best of the seeds below k, at the price p
pub record Chosen (t : Terms) (costs : ℕ → ℕ → ℕ) (k s p : ℕ) : Type 0 where
  pub some : 1 ≤ s
  pub within : s < k
  pub priced : p ≡ start t costs s
  pub least : (u : ℕ) → 1 ≤ u → u < k → start t costs s ≤ start t costs u
  pub first : (u : ℕ) → 1 ≤ u → u < s → start t costs s < start t costs u

-- what best goes on from the run i to j, after the letters pre, is best from the seed s on
abbrev pub Onward : Terms → ℕ → List Letter → ℕ → ℕ → Type 0
Onward t s pre i j = (ls : List Letter) → Best t i j ls → Best t s s (pre ++ ls)

-- the letters before ls cost p, and led from the seed s to the run i to j
pub record Walked (t : Terms) (s : ℕ) (all : List Letter) (i j : ℕ) (ls : List Letter) (p : ℕ) : Type 0 where
  pub ordered : i ≤ j
  pub completes : Completes t i j ls
  pub sofar : p + price_of_letters t i j ls ≡ price_of_letters t s s all
  pub bound : p + most * (i - 1 + (t.motifs - j)) ≤ most * 11
