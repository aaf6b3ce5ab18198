-- The ways on from a run: what the planner's inner functions answer.
use Rattle.std.specs.Prelude.{◌≡◌, ℕ, ◌+◌, ◌-◌, ◌*◌, ◌≤◌, Option, MatchOption}
use Rattle.walk.specs.declared.letter.Letter.{Letter}
use Rattle.planner.specs.declared.plan.Next.{Next}
use Rattle.planner.specs.Orders.{Terms, price_of_letter}
use Rattle.planner.specs.Runs.{Can}
use Rattle.planner.specs.Best.{Leads, most, once_taken}

-- the letter x begins a way on at the price p, by the table
pub record IsWay (t : Terms) (costs : ℕ → ℕ → ℕ) (i j : ℕ) (x : Letter) (p : ℕ) : Type 0 where
  pub can : Can t.motifs i j x
  pub priced : p ≡ price_of_letter t i j x + once_taken costs i j x
  pub bound : p ≤ most * (i - 1 + (t.motifs - j))

-- the best way on from the run i to j that begins with the letter x: None just where it has no motif to take
abbrev pub Way : Terms → (ℕ → ℕ → ℕ) → ℕ → ℕ → Letter → Option Next → Type 0
Way t costs i j x o = MatchOption o (Can t.motifs i j x → ⊥) (λ n. (n.letter ≡ x) × IsWay t costs i j x n.price)

-- the best way on from the run i to j: None just where that is the whole rule
abbrev pub Extends : Terms → ℕ → ℕ → Option Next → Type 0
Extends t i j o =
    MatchOption o ((i ≡ 1) × (j ≡ t.motifs)) (λ n. Leads t i j n.letter n.price × (n.price ≤ most * (i - 1 + (t.motifs - j))))
