-- Numbers as the lines of a job write them.
use Rattle.std.specs.Prelude.{ℕ, List, map, ℤ, ◌≤ℤ◌}
use Rattle.std.specs.Fmt.{signed_decimal}
use Rattle.word.specs.Numbers.{highest, lowest}
use Rattle.word.specs.declared.limits.Limits.{Limits}
use Rattle.writing.specs.Joined.{joined}

-- `word_of z`       the word of a number: its decimal digits without a leading zero, and a minus before them where it is below 0
abbrev pub word_of : ℤ → List ℕ
word_of z = signed_decimal z

-- `words_of zs`     the words of numbers
abbrev pub words_of : List ℤ → List (List ℕ)
words_of zs = map word_of zs

-- `numbers zs`     the numbers, with one space between each two
abbrev pub numbers : List ℤ → List ℕ
numbers zs = joined 32 (words_of zs)

-- `Keeps m z`      the number keeps the limits
abbrev pub Keeps : Limits → ℤ → Type 0
Keeps m z = (lowest m ≤ℤ z) × (z ≤ℤ highest m)
