-- The faults of words: the refusal and the place of each, and which one a field has that begins at a place of its line.
use Rattle.std.specs.Prelude.{ℕ, ◌+◌, not, List, None, Option}
use Rattle.std.specs.Char.{is_ascii_alphabetic}
use Rattle.std.specs.Option.{option_map}
use Rattle.refusal.specs.Checks.{refuse}
use Rattle.refusal.specs.declared.Refusal.{Refusal}
use Rattle.refusal.specs.declared.Refusal.TheVariants.{BadName as ByName, BadNumber as ByNumber}
use Rattle.entry.specs.Names.{is_name}
use Rattle.shape.specs.Kinds.{is_numeral}
use Rattle.word.specs.Numbers.{is_number}
use Rattle.word.specs.Runs.{first_fault_of}
use Rattle.word.specs.declared.limits.Limits.{Limits}
use Rattle.word.specs.declared.faults.WordFault.{WordFault}
use Rattle.word.specs.declared.faults.WordFault.TheVariants.{BadName, BadNumber}

abbrev pub word_refusal : WordFault → Refusal
word_refusal (BadName p) = ByName
word_refusal (BadNumber p) = ByNumber

abbrev pub word_place : WordFault → ℕ
word_place (BadName p) = p
word_place (BadNumber p) = p

-- `raised fault at o`   the fault at a place of a field, where the field begins at `at`
abbrev pub raised : {E : Type 0} → (ℕ → E) → ℕ → Option ℕ → Option E
raised fault at o = option_map (λ q. fault (at + q)) o

-- the whole field is a name
abbrev pub name_fault : ℕ → List ℕ → Option WordFault
name_fault at w = refuse (not (is_name w)) (BadName at) None

-- every run of letters of the field is a name
abbrev pub letters_fault : ℕ → List ℕ → Option WordFault
letters_fault at w = raised BadName at (first_fault_of is_ascii_alphabetic is_name w)

-- every run of digits and minus signs is a number within the limits
abbrev pub numbers_fault : Limits → ℕ → List ℕ → Option WordFault
numbers_fault m at w = raised BadNumber at (first_fault_of is_numeral (is_number m) w)
