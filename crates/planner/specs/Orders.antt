-- Orders of a rule, what they cost by a forecast, and which of two is preferred. Motifs are numbered 1 to m, and the range k stands between the motifs k and k + 1.
use Rattle.std.specs.Prelude.{◌≡◌, ℕ, ◌+◌, ◌-◌, ◌*◌, ◌<◌, ◌⊎◌, List, [], ◌∷◌, Some, None, Option}
use Rattle.walk.specs.declared.letter.Letter.{Letter}
use Rattle.walk.specs.declared.letter.Letter.TheVariants.{L, R}
use Rattle.walk.specs.Walk.{lefts, rights}

-- what prices are made from
pub record Terms : Type 0 where
  pub motifs : ℕ
  pub boxes : ℕ
  pub look : ℕ → ℕ
  pub opening : ℕ → ℕ
  pub width : ℕ → ℕ
  pub forecast : ℕ → ℕ → ℕ

-- The letters take the run i to j to the whole rule. So a seed s and letters are an allowed order just where they do that for the run s to s.
pub record Completes (t : Terms) (i j : ℕ) (ls : List Letter) : Type 0 where
  pub left : lefts ls + 1 ≡ i
  pub right : rights ls + j ≡ t.motifs

-- what it costs to take the motif i over the range k, once
abbrev pub taking : Terms → ℕ → ℕ → ℕ
taking t i k = t.opening i + t.width k * t.look i

-- what a letter costs after the run i to j, and what letters cost from it on
abbrev pub price_of_letter : Terms → ℕ → ℕ → Letter → ℕ
price_of_letter t i j L = t.forecast i j * taking t (i - 1) (i - 1)
price_of_letter t i j R = t.forecast i j * taking t (j + 1) j

abbrev pub price_of_letters : Terms → ℕ → ℕ → List Letter → ℕ
price_of_letters t i j [] = 0
price_of_letters t i j (L ∷ ls) = price_of_letter t i j L + price_of_letters t (i - 1) j ls
price_of_letters t i j (R ∷ ls) = price_of_letter t i j R + price_of_letters t i (j + 1) ls

-- the price of the order with the seed s and the letters ls
abbrev pub price : Terms → ℕ → List Letter → ℕ
price t s ls = (t.boxes + 1) * t.look s + price_of_letters t s s ls

-- r answers what an order costs: None just where it is not allowed
abbrev pub Asked : Terms → ℕ → List Letter → Option ℕ → Type 0
Asked t s ls None = Completes t s s ls → ⊥
Asked t s ls (Some p) = Completes t s s ls × (p ≡ price t s ls)

-- R at the first letter that differs
abbrev pub Earlier : List Letter → List Letter → Type 0
Earlier [] ms = ⊥
Earlier (L ∷ ls) [] = ⊥
Earlier (R ∷ ls) [] = ⊥
Earlier (L ∷ ls) (L ∷ ms) = Earlier ls ms
Earlier (L ∷ ls) (R ∷ ms) = ⊥
Earlier (R ∷ ls) (L ∷ ms) = Unit {0}
Earlier (R ∷ ls) (R ∷ ms) = Earlier ls ms

-- the cheaper order comes first; among equals that of the smaller seed; then the one with the earlier letters
abbrev pub Before : Terms → ℕ → List Letter → ℕ → List Letter → Type 0
Before t s ls u ms =
    (price t s ls < price t u ms) ⊎ ((price t s ls ≡ price t u ms) × ((s < u) ⊎ ((s ≡ u) × Earlier ls ms)))

-- the planned order and its price: allowed, and before every other allowed order, so it is the only one
pub record IsPlanned (t : Terms) (s : ℕ) (ls : List Letter) (c : ℕ) : Type 0 where
  pub allowed : Completes t s s ls
  pub priced : price t s ls ≡ c
  pub before : (u : ℕ) (ms : List Letter) → Completes t u u ms → ((s ≡ u) × (ls ≡ ms)) ⊎ Before t s ls u ms
