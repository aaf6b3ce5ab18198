-- The shapes of written numbers.
use Rattle.std.proofs.Common.{◌≡◌, ℕ, ◌<◌, true, cond, List, [], ◌∷◌, ◌++◌, length, Some, None, refl, ap, ◌∙◌, arith}
use Rattle.std.specs.Char.{is_ascii_alphabetic}
use Rattle.std.specs.List.{AllByRecursion}
use Rattle.shape.specs.declared.kinds.Kind.TheVariants.{Space, Star, Dot, Open, Shut, Less, More, Numeral, Letter, Other}
use Rattle.shape.specs.Kinds.{is_numeral, kind_of}
use Rattle.shape.specs.Shape.{Shape, one, ◌then◌, many}
use Rattle.shape.specs.Grammar.{codes, numeral}
use Rattle.shape.specs.Follow.{after, goes, has, misfit}
use Rattle.writing.specs.Joined.{behind}
use Rattle.writing.proofs.Bytes.{Plain, other, plain-first, plain-rest}

kind_numeral : (b : ℕ) → is_numeral b ≡ true → kind_of b ≡ Numeral
kind_numeral b h i =
    cond (other is_numeral b 32 h refl i) Space
    (cond (other is_numeral b 42 h refl i) Star
    (cond (other is_numeral b 46 h refl i) Dot
    (cond (other is_numeral b 91 h refl i) Open
    (cond (other is_numeral b 93 h refl i) Shut
    (cond (other is_numeral b 60 h refl i) Less
    (cond (other is_numeral b 62 h refl i) More
    (cond (h i) Numeral
    (cond (is_ascii_alphabetic b) Letter Other))))))))

-- one byte of a number word, after which the shape t is left
turn : (s t : Shape) (b : ℕ) (w : List ℕ) → is_numeral b ≡ true → after Numeral s ≡ t → has s (b ∷ w) ≡ has t w
turn s t b w h e = ap (λ k. has (after k s) w) (kind_numeral b h) ∙ ap (λ x. has x w) e

-- a word, in a shape that more of it leaves as it is
word : (s : Shape) (w v : List ℕ) → after Numeral s ≡ s → Plain w → has s (w ++ v) ≡ has s v
word s [] v e h = refl
word s (b ∷ w) v e h = turn s s b (w ++ v) (plain-first b w h) e ∙ word s w v e (plain-rest b w h)

-- a whole word where one is due
pub due : (s t : Shape) (w v : List ℕ) → after Numeral s ≡ t → after Numeral t ≡ t → Plain w → 0 < length w → has s (w ++ v) ≡ has t v
due s t [] v e f h l = absurd (omega arith)
due s t (b ∷ w) v e f h l = turn s t b (w ++ v) (plain-first b w h) e ∙ word t w v f (plain-rest b w h)

pub fits : (s : Shape) (w : List ℕ) → has s w ≡ true → misfit s w ≡ None
fits s w e = ap (λ t. cond t None (Some (goes s w))) e

abbrev digits : Shape
digits = many (one Numeral)

abbrev in_code : Shape
in_code = many (one Numeral) then many (one Space then numeral)

-- a word that may stand where a number is due
abbrev pub Whole : List ℕ → Type 0
Whole w = Plain w × (0 < length w)

all_digits : (w : List ℕ) → Plain w → has digits w ≡ true
all_digits [] h = refl
all_digits (b ∷ w) h = turn digits digits b w (plain-first b w h) refl ∙ all_digits w (plain-rest b w h)

pub shaped : (w : List ℕ) → Whole w → misfit numeral w ≡ None
shaped [] h = absurd (omega (arith, h.1))
shaped (b ∷ w) h = fits numeral (b ∷ w) (turn numeral digits b w (plain-first b w h.0) refl ∙ all_digits w (plain-rest b w h.0))

first : (w : List ℕ) (ws : List (List ℕ)) → Whole w → AllByRecursion Whole ws → has codes (w ++ behind 32 ws) ≡ true
first w [] h a = due codes in_code w [] refl refl h.0 h.1
first w (v ∷ vs) h a = due codes in_code w (behind 32 (v ∷ vs)) refl refl h.0 h.1 ∙ first v vs a.0 a.1

pub joined-shaped : (w : List ℕ) (ws : List (List ℕ)) → Whole w → AllByRecursion Whole ws → misfit codes (w ++ behind 32 ws) ≡ None
joined-shaped w ws h a = fits codes (w ++ behind 32 ws) (first w ws h a)
