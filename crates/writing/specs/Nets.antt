-- Nets as they are written: the name of the first motif, and for each step its range and the name that it leads to.
use Rattle.std.specs.Prelude.{◌≡◌, ℕ, ◌+◌, true, List, [], ◌∷◌, ◌++◌, map, length, ℤ, None}
use Rattle.std.specs.List.{AllByRecursion}
use Rattle.entry.specs.Names.{is_name}
use Rattle.shape.specs.Follow.{misfit}
use Rattle.shape.specs.Grammar.{net}
use Rattle.std.specs.Char.{is_ascii_alphabetic}
use Rattle.shape.specs.Kinds.{is_numeral}
use Rattle.word.specs.Numbers.{is_number}
use Rattle.word.specs.Runs.{first_fault_of}
use Rattle.word.specs.declared.limits.Limits.TheVariants.{Shift}
use Rattle.net.specs.Tokens.{Tok, name, range}
use Rattle.writing.specs.Joined.{joined}
use Rattle.writing.specs.Numerals.{Keeps, word_of}

-- a step of a rule, with the name of the motif that it leads to
pub record Leg : Type 0 where
  pub low : ℤ
  pub high : ℤ
  pub name : List ℕ

-- `leg_text s`      `<l r> NAME`
abbrev pub leg_text : Leg → List ℕ
leg_text s = 60 ∷ (word_of s.low ++ (32 ∷ (word_of s.high ++ (62 ∷ 32 ∷ s.name))))

-- `net_text n ss`   the first name and the steps, with one space between each two
abbrev pub net_text : List ℕ → List Leg → List ℕ
net_text n ss = joined 32 (n ∷ map leg_text ss)

pub record LawfulLeg (s : Leg) : Type 0 where
  pub lows : Keeps Shift s.low
  pub highs : Keeps Shift s.high
  pub named : is_name s.name ≡ true

-- `low_part s`, `high_part s`   the parts of a range at its space
abbrev pub low_part : Leg → List ℕ
low_part s = 60 ∷ word_of s.low

abbrev pub high_part : Leg → List ℕ
high_part s = word_of s.high ++ 62 ∷ []

-- `leg_tokens at ss`   the range and the name of each step, of which the first is at the place `at`
abbrev pub leg_tokens : ℕ → List Leg → List Tok
leg_tokens at [] = []
leg_tokens at (s ∷ ss) =
    let on = at + length (low_part s) + 1 + length (high_part s) + 1 in
    range at (record { low = s.low; high = s.high }) ∷ name on s.name ∷ leg_tokens (on + length s.name + 1) ss

-- the numbers of a net keep their limits, its names are names, and it has its shape
pub record Nets : Type 0 where
  pub net_sound : (n : List ℕ) (ss : List Leg) → is_name n ≡ true → AllByRecursion LawfulLeg ss → first_fault_of is_numeral (is_number Shift) (net_text n ss) ≡ None
  pub net_named : (n : List ℕ) (ss : List Leg) → is_name n ≡ true → AllByRecursion LawfulLeg ss → first_fault_of is_ascii_alphabetic is_name (net_text n ss) ≡ None
  pub net_shaped : (n : List ℕ) (ss : List Leg) → is_name n ≡ true → AllByRecursion LawfulLeg ss → misfit net (net_text n ss) ≡ None
