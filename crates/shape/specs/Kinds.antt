-- The kinds of bytes that shapes tell apart.
use Rattle.std.specs.Prelude.{ℕ, Bool, cond, ◌||◌, ◌==◌}
use Rattle.std.specs.Char.{is_ascii_alphabetic, is_ascii_digit}
use Rattle.shape.specs.declared.kinds.Kind.{Kind}
use Rattle.shape.specs.declared.kinds.Kind.TheVariants.{Space, Star, Dot, Open, Shut, Less, More, Numeral, Letter, Other}

-- what a number word is made of: digits and minus signs
abbrev pub is_numeral : ℕ → Bool
is_numeral b = is_ascii_digit b || b == 45

-- letters are a to z, and A to Z
abbrev pub kind_of : ℕ → Kind
kind_of b =
    cond (b == 32) Space
    (cond (b == 42) Star
    (cond (b == 46) Dot
    (cond (b == 91) Open
    (cond (b == 93) Shut
    (cond (b == 60) Less
    (cond (b == 62) More
    (cond (is_numeral b) Numeral
    (cond (is_ascii_alphabetic b) Letter Other))))))))
