-- What a letter does after the run i to j: what the planner's inner functions speak of.
use Rattle.std.specs.Prelude.{ℕ, ◌+◌, ◌-◌, ◌≤◌}
use Rattle.walk.specs.declared.letter.Letter.{Letter}
use Rattle.walk.specs.declared.letter.Letter.TheVariants.{L, R}

-- the letter has a motif to take, of m
abbrev pub Can : ℕ → ℕ → ℕ → Letter → Type 0
Can m i j L = (2 ≤ i) × (j ≤ m)
Can m i j R = j + 1 ≤ m

-- the motif that it takes, and the range between that and the run
abbrev pub motif_taken : ℕ → ℕ → Letter → ℕ
motif_taken i j L = i - 1
motif_taken i j R = j + 1

abbrev pub range_taken : ℕ → ℕ → Letter → ℕ
range_taken i j L = i - 1
range_taken i j R = j

-- the first and the last motif of the run that it makes
abbrev pub first_after : ℕ → Letter → ℕ
first_after i L = i - 1
first_after i R = i

abbrev pub last_after : ℕ → Letter → ℕ
last_after j L = j
last_after j R = j + 1
