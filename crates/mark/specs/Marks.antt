-- Marks: what a list of them means as a source and costs, when one is lawful, and which of two comes first.
use Rattle.std.specs.Prelude.{◌≡◌, ℕ, ◌<◌, ◌≤◌, Bool, false, ◌&&◌, ◌||◌, ◌⊎◌, List, [], ◌∷◌, ◌==◌}
use Rattle.entry.specs.declared.mark.Mark.{Mark}
use Rattle.source.specs.Meaning.{Meaning, Price}

-- `any_mark ms k a b`  some mark of ms is (k, a, b)
abbrev pub is_mark : Mark → ℕ → ℕ → ℕ → Bool
is_mark m k a b = m.motif == k && (m.start == a && m.end == b)

abbrev pub any_mark : List Mark → ℕ → ℕ → ℕ → Bool
any_mark [] k a b = false
any_mark (m ∷ ms) k a b = is_mark m k a b || any_mark ms k a b

-- the stretches are the marks
abbrev pub mark_meaning : ℕ → List Mark → Meaning
mark_meaning n ms = record { boxes = n; has = λ k a b. any_mark ms k a b }

-- the same for every motif
abbrev pub mark_price : Price
mark_price = record { look = 1; opening = 2 }

-- a mark that may stand in a source of n boxes
pub record LawfulMark (n : ℕ) (m : Mark) : Type 0 where
  pub known : m.motif ≤ 15
  pub ordered : m.start ≤ m.end
  pub inside : m.end ≤ n

-- p comes strictly before q: by motif, then start, then end
abbrev pub Before : Mark → Mark → Type 0
Before p q = (p.motif < q.motif) ⊎ ((p.motif ≡ q.motif) × ((p.start < q.start) ⊎ ((p.start ≡ q.start) × (p.end < q.end))))
