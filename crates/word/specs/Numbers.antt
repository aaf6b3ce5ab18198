-- Number words: what number one writes, and the limits that it has to keep.
use Rattle.std.specs.Prelude.{ℕ, Bool, false, cond, ◌&&◌, List, [], ◌∷◌, length, ℤ, pos, negsuc, neg_ℤ, is_some, None, Option, ◌==◌, int_le, nat_le, unsigned_abs}
use Rattle.std.specs.Bool.{then_some}
use Rattle.std.specs.Option.{option_and_then, option_map, option_map_or}
use Rattle.std.specs.Str.{all_ascii_digits}
use Rattle.std.specs.Str.Parse.{digits_value}
use Rattle.word.specs.declared.limits.Limits.{Limits}
use Rattle.word.specs.declared.limits.Limits.TheVariants.{Code, Shift, Place}

-- `leads ds`       ds begins with a digit that is no zero
abbrev pub leads : List ℕ → Bool
leads [] = false
leads (b ∷ bs) = nat_le 49 b

-- `plain ds`       the number of one or more digits without a leading zero
abbrev pub plain : List ℕ → Option ℕ
plain ds = then_some (leads ds && all_ascii_digits ds) (digits_value 10 ds)

-- `written w`      the number that a word writes: 0, or digits without a leading zero and at most one minus before them
abbrev pub written : List ℕ → Option ℤ
written [] = None
written (b ∷ bs) =
    cond (b == 48) (then_some (length bs == 0) (pos 0)) (cond (b == 45) (option_map (λ n. neg_ℤ (pos n)) (plain bs)) (option_map pos (plain (b ∷ bs))))

abbrev pub lowest : Limits → ℤ
lowest Code = pos 0
lowest Shift = negsuc 1999
lowest Place = pos 0

abbrev pub highest : Limits → ℤ
highest Code = pos 65535
highest Shift = pos 2000
highest Place = pos 20000

-- `kept low high o`  the number, if there is one from low to high
abbrev pub kept : ℤ → ℤ → Option ℤ → Option ℤ
kept low high o = option_and_then (λ v. then_some (int_le low v && int_le v high) v) o

-- `number_of m w`   the number of a word that is well formed and keeps its limits
abbrev pub number_of : Limits → List ℕ → Option ℤ
number_of m w = kept (lowest m) (highest m) (written w)

abbrev pub is_number : Limits → List ℕ → Bool
is_number m w = is_some (number_of m w)

-- `counted o`      a number as a count, 0 where there is none
abbrev pub counted : Option ℤ → ℕ
counted o = option_map_or unsigned_abs o 0

-- `code_of w`       the code that a word is; 0 where it is none, which no line keeps that is taken
abbrev pub code_of : List ℕ → ℕ
code_of w = counted (number_of Code w)

-- `place_of w`      likewise for a start or an end
abbrev pub place_of : List ℕ → ℕ
place_of w = counted (number_of Place w)
