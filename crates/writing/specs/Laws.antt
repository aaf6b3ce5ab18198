-- Laws of written numbers: what the reader makes of a number, and of numbers joined with spaces.
use Rattle.std.specs.Prelude.{◌≡◌, ℕ, ◌<◌, true, false, List, ◌∷◌, length, ℤ, Some, None}
use Rattle.std.specs.List.{AllByRecursion}
use Rattle.std.specs.List.{list_all}
use Rattle.shape.specs.Follow.{misfit}
use Rattle.shape.specs.Grammar.{codes, numeral}
use Rattle.shape.specs.Kinds.{is_numeral}
use Rattle.parts.specs.Parts.{parts, tally}
use Rattle.word.specs.Numbers.{is_number, number_of}
use Rattle.word.specs.Runs.{first_fault_of}
use Rattle.word.specs.declared.limits.Limits.{Limits}
use Rattle.writing.specs.Numerals.{Keeps, numbers, word_of, words_of}

-- a number that keeps its limits is read back from its word
abbrev pub Back : Type 0
Back = (m : Limits) (z : ℤ) → Keeps m z → number_of m (word_of z) ≡ Some z

abbrev pub Sound : Type 0
Sound = (m : Limits) (z : ℤ) → Keeps m z → is_number m (word_of z) ≡ true

abbrev pub NotEmpty : Type 0
NotEmpty = (m : Limits) (z : ℤ) → Keeps m z → 0 < length (word_of z)

-- a word has only digits and minus signs, so no other byte stands in it
abbrev pub Only : Type 0
Only = (m : Limits) (z : ℤ) → Keeps m z → list_all is_numeral (word_of z) ≡ true

abbrev pub NoOther : Type 0
NoOther = (m : Limits) (z : ℤ) (b : ℕ) → Keeps m z → is_numeral b ≡ false → tally b (word_of z) ≡ 0

abbrev pub Shaped : Type 0
Shaped = (m : Limits) (z : ℤ) → Keeps m z → misfit numeral (word_of z) ≡ None

-- what holds of one or more numbers, where all of them keep their limits
abbrev pub OfSome : (Limits → List ℤ → Type 0) → Type 0
OfSome P = (m : Limits) (z : ℤ) (zs : List ℤ) → AllByRecursion (Keeps m) (z ∷ zs) → P m (z ∷ zs)

-- the parts at spaces are the words again
abbrev pub Parted : Type 0
Parted = OfSome (λ m zs. parts 32 (numbers zs) ≡ words_of zs)

-- every run of digits and minus signs is one of the numbers
abbrev pub AllSound : Type 0
AllSound = OfSome (λ m zs. first_fault_of is_numeral (is_number m) (numbers zs) ≡ None)

abbrev pub AllShaped : Type 0
AllShaped = OfSome (λ m zs. misfit codes (numbers zs) ≡ None)

pub record Numerals : Type 0 where
  pub back : Back
  pub sound : Sound
  pub not_empty : NotEmpty
  pub only : Only
  pub no_other : NoOther
  pub shaped : Shaped
  pub parted : Parted
  pub all_sound : AllSound
  pub all_shaped : AllShaped
