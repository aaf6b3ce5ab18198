-- What a source means: its length, the stretches of each motif, and its prices; and what its three questions answer.
use Rattle.std.specs.Prelude.{◌≡◌, ℕ, ◌<◌, ◌≤◌, Bool, true, Some, None, Option, ◌≢◌}

-- `boxes`          the length: places are 0 to `boxes`, and place p is the gap before box p
-- `has k a b`      (a, b) is a stretch of motif k: it covers the boxes a to b - 1, and may be empty
pub record Meaning : Type 0 where
  pub boxes : ℕ
  pub has : ℕ → ℕ → ℕ → Bool

-- what every source owes of its meaning
pub record Lawful (M : Meaning) : Type 0 where
  pub short : M.boxes ≤ 20000
  pub known : (k a b : ℕ) → M.has k a b ≡ true → k ≤ 15
  pub ordered : (k a b : ℕ) → M.has k a b ≡ true → a ≤ b
  pub inside : (k a b : ℕ) → M.has k a b ≡ true → b ≤ M.boxes

-- r is the smallest number at or above `least` that passes the test; None where there is none
abbrev pub Least : (ℕ → Bool) → ℕ → Option ℕ → Type 0
Least test least None = (x : ℕ) → least ≤ x → test x ≢ true
Least test least (Some e) = (least ≤ e) × (test e ≡ true) × ((x : ℕ) → least ≤ x → x < e → test x ≢ true)

-- r answers the end question: the smallest end, from `least` on, of a stretch of motif k that starts at a
abbrev pub NextEnd : Meaning → ℕ → ℕ → ℕ → Option ℕ → Type 0
NextEnd M k a least r = Least (λ b. M.has k a b) least r

-- r answers the start question: the smallest start, from `least` on, of a stretch of motif k that ends at b
abbrev pub NextStart : Meaning → ℕ → ℕ → ℕ → Option ℕ → Type 0
NextStart M k b least r = Least (λ a. M.has k a b) least r

-- the two prices of a motif: of each look, and what the first look of a step costs on top
pub record Price : Type 0 where
  pub look : ℕ
  pub opening : ℕ

-- what every priced source owes of each price
pub record Fair (p : Price) : Type 0 where
  pub some : 1 ≤ p.look
  pub look_bound : p.look ≤ 1000
  pub opening_bound : p.opening ≤ 1000

-- the meaning of a priced source, whole
pub record Priced : Type 0 where
  pub boxes : ℕ
  pub has : ℕ → ℕ → ℕ → Bool
  pub look : ℕ → ℕ
  pub opening : ℕ → ℕ

-- `priced M price`  a meaning with its prices
abbrev pub priced : Meaning → (ℕ → Price) → Priced
priced M price = record { boxes = M.boxes; has = M.has; look = λ k. (price k).look; opening = λ k. (price k).opening }

-- `plain P`         the same without them
abbrev pub plain : Priced → Meaning
plain P = record { boxes = P.boxes; has = P.has }
