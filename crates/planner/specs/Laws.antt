-- What ties prices and orders to the walk.
use Rattle.std.specs.Prelude.{◌≡◌, ℕ, ◌+◌, ◌≤◌, List, length}
use Rattle.entry.specs.Rules.{width, Net}
use Rattle.source.specs.Meaning.{Priced, plain}
use Rattle.walk.specs.declared.letter.Letter.{Letter}
use Rattle.walk.specs.Walk.{Order, Allowed}
use Rattle.walk.specs.Numbered.{motif, range, N, price_of}
use Rattle.planner.specs.Orders.{Terms, Completes, IsPlanned, price}

-- the prices, the widths and the true numbers of partial placements
abbrev pub counted : Priced → Net → Terms
counted M r =
    record {
      motifs = length r.rest + 1;
      boxes = M.boxes;
      look = λ i. M.look (motif r i);
      opening = λ i. M.opening (motif r i);
      width = λ k. width (range r k);
      forecast = N (plain M) r;
    }

abbrev pub CountedPrice : Type 0
CountedPrice = (M : Priced) (r : Net) (o : Order) → price_of M r o ≡ price (counted M r) o.seed o.letters

-- both ways
abbrev pub AllowedCompletes : Type 0
AllowedCompletes = (t : Terms) (r : Net) (o : Order) → t.motifs ≡ length r.rest + 1 → (Allowed r o → Completes t o.seed o.seed o.letters) × (Completes t o.seed o.seed o.letters → Allowed r o)

-- two terms say the same of every motif, range and run of the rule
pub record Agree (t u : Terms) : Type 0 where
  pub motifs : t.motifs ≡ u.motifs
  pub boxes : t.boxes ≡ u.boxes
  pub look : (i : ℕ) → 1 ≤ i → i ≤ t.motifs → t.look i ≡ u.look i
  pub opening : (i : ℕ) → 1 ≤ i → i ≤ t.motifs → t.opening i ≡ u.opening i
  pub width : (k : ℕ) → 1 ≤ k → k + 1 ≤ t.motifs → t.width k ≡ u.width k
  pub forecast : (i j : ℕ) → 1 ≤ i → i ≤ j → j ≤ t.motifs → t.forecast i j ≡ u.forecast i j

-- then they price every order alike, and plan the same one
abbrev pub SamePrices : Type 0
SamePrices = (t u : Terms) → Agree t u → (s : ℕ) (ls : List Letter) → Completes t s s ls → price t s ls ≡ price u s ls

abbrev pub SamePlan : Type 0
SamePlan = (t u : Terms) → Agree t u → (s : ℕ) (ls : List Letter) (c : ℕ) → IsPlanned t s ls c → IsPlanned u s ls c

-- `Only t s ls c`   whatever is planned is the seed s and the letters ls at the price c
abbrev pub Only : Terms → ℕ → List Letter → ℕ → Type 0
Only t s ls c = (u : ℕ) (ms : List Letter) (d : ℕ) → IsPlanned t u ms d → (u ≡ s) × (ms ≡ ls) × (d ≡ c)

abbrev pub OnlyOne : Type 0
OnlyOne = (t : Terms) (s : ℕ) (ls : List Letter) (c : ℕ) → IsPlanned t s ls c → Only t s ls c
