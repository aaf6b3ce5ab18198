-- What may follow the beginning of a text, worked out byte by byte, and so where a text leaves its shape.
use Rattle.std.specs.Prelude.{ℕ, ◌+◌, Bool, true, false, cond, ◌&&◌, ◌||◌, List, [], ◌∷◌, Some, None, Option, ◌==◌}
use Rattle.shape.specs.declared.kinds.Kind.{Kind}
use Rattle.shape.specs.declared.kinds.Kind.TheVariants.{Space, Star, Dot, Open, Shut, Less, More, Numeral, Letter, Other}
use Rattle.shape.specs.Kinds.{kind_of}
use Rattle.shape.specs.Shape.{Shape, never, empty, one, ◌then◌, ◌or◌, many}

abbrev pub number : Kind → ℕ
number Space = 0
number Star = 1
number Dot = 2
number Open = 3
number Shut = 4
number Less = 5
number More = 6
number Numeral = 7
number Letter = 8
number Other = 9

abbrev pub same : Kind → Kind → Bool
same j k = number j == number k

-- whether the empty text has the shape
abbrev pub may_end : Shape → Bool
may_end never = false
may_end empty = true
may_end (one k) = false
may_end (r then s) = may_end r && may_end s
may_end (r or s) = may_end r || may_end s
may_end (many r) = true

-- `then` and `or`, with `never` and `empty` left out
abbrev pub seq : Shape → Shape → Shape
seq never s = never
seq empty s = s
seq (one k) s = one k then s
seq (a then b) s = (a then b) then s
seq (a or b) s = (a or b) then s
seq (many a) s = many a then s

abbrev pub or_not : Shape → Shape → Shape
or_not r never = r
or_not r empty = r or empty
or_not r (one k) = r or one k
or_not r (a then b) = r or (a then b)
or_not r (a or b) = r or (a or b)
or_not r (many a) = r or many a

abbrev pub alt : Shape → Shape → Shape
alt never s = s
alt empty s = or_not empty s
alt (one k) s = or_not (one k) s
alt (a then b) s = or_not (a then b) s
alt (a or b) s = or_not (a or b) s
alt (many a) s = or_not (many a) s

-- the shape of what may follow a byte of the kind
abbrev pub after : Kind → Shape → Shape
after k never = never
after k empty = never
after k (one j) = cond (same k j) empty never
after k (r then s) = alt (seq (after k r) s) (cond (may_end r) (after k s) never)
after k (r or s) = alt (after k r) (after k s)
after k (many r) = seq (after k r) (many r)

abbrev pub is_never : Shape → Bool
is_never never = true
is_never empty = false
is_never (one k) = false
is_never (r then s) = false
is_never (r or s) = false
is_never (many r) = false

-- `has s w`      whether the text w has the shape s
abbrev pub has : Shape → List ℕ → Bool
has s [] = may_end s
has s (b ∷ w) = has (after (kind_of b) s) w

-- `goes s w`     how many bytes of w can stand in a text of the shape s, counted up to the first that can't
abbrev pub goes : Shape → List ℕ → ℕ
goes s [] = 0
goes s (b ∷ w) = cond (is_never (after (kind_of b) s)) 0 (1 + goes (after (kind_of b) s) w)

-- `misfit s w`   none where w has the shape s, else the length of its longest beginning that can be completed
abbrev pub misfit : Shape → List ℕ → Option ℕ
misfit s w = cond (has s w) None (Some (goes s w))
