-- What a BODY says: no body, its items, or the place of the first entry too many. Its parts at the spaces are read one by
-- one; a field that hasn't its shape is read too, but its line is refused before.
use Rattle.std.specs.Prelude.{ℕ, ◌-◌, Bool, false, cond, ◌||◌, List, [], ◌∷◌, ◌++◌, length, take, drop, Some, None, Ok, Err, Option, Result, ◌==◌, nat_le, slice_index}
use Rattle.parts.specs.Parts.{Placed, parts, placed}
use Rattle.word.specs.Numbers.{code_of}
use Rattle.body.specs.Entries.{Entry, code, any, one_of}

-- `items`        the items read so far
-- `class`        the codes of a class that is not shut yet
pub record Reading : Type 0 where
  pub items : List Entry
  pub class : Option (List ℕ)

abbrev pub empty : Reading
empty = record { items = []; class = None }

-- `is_byte b w`   the text is the one byte b
abbrev pub is_byte : ℕ → List ℕ → Bool
is_byte b [] = false
is_byte b (x ∷ w) = cond (length w == 0) (x == b) (false)

-- `opens p`      the part begins with `[`
abbrev pub opens : List ℕ → Bool
opens p = slice_index p 0 == 91

-- `shuts p`      the part ends with `]`
abbrev pub shuts : List ℕ → Bool
shuts p = slice_index p (length p - 1) == 93

abbrev pub with_item : List Entry → Entry → Reading
with_item es e = record { items = es ++ e ∷ []; class = None }

-- `inside_class es cs p`   the part p inside a class that has the codes cs
abbrev pub inside_class : List Entry → List ℕ → List ℕ → Reading
inside_class es cs p =
    cond (shuts p) (with_item es (one_of (cs ++ code_of (take (length p - 1) p) ∷ []))) (record { items = es; class = Some (cs ++ code_of p ∷ []) })

-- `as_item es p`  the part p where an item begins
abbrev pub as_item : List Entry → List ℕ → Reading
as_item es p = cond (is_byte 46 p) (with_item es any) (cond (opens p) (inside_class es [] (drop 1 p)) (with_item es (code (code_of p))))

-- `full c`       a class that is not shut yet has 8 codes
abbrev pub full : Option (List ℕ) → Bool
full None = false
full (Some cs) = nat_le 8 (length cs)

-- `go_on es c p`  the part p, inside a class or not
abbrev pub go_on : List Entry → Option (List ℕ) → List ℕ → Reading
go_on es None p = as_item es p
go_on es (Some cs) p = inside_class es cs p

-- `onward at r p`   the part p, at the place `at`, behind what was read; it may be a 17th item or a class's ninth code
abbrev pub onward : ℕ → Reading → List ℕ → Result Reading ℕ
onward at r p = cond (nat_le 16 (length r.items) || full r.class) (Err at) (Ok (go_on r.items r.class p))

-- `read_all r ps`   the parts ps, behind what was read
abbrev pub read_all : Result Reading ℕ → List Placed → Result Reading ℕ
read_all (Err p) ps = Err p
read_all (Ok r) [] = Ok r
read_all (Ok r) (p ∷ ps) = read_all (onward p.at r p.bytes) ps

-- `read_from at r ps`   the same, where the first of the parts is at the place `at`
abbrev pub read_from : ℕ → Result Reading ℕ → List (List ℕ) → Result Reading ℕ
read_from at r ps = read_all r (placed at ps)

-- `or_none es`    no body where there are no items
abbrev pub or_none : List Entry → Option (List Entry)
or_none [] = None
or_none (e ∷ es) = Some (e ∷ es)

abbrev pub items_in : Result Reading ℕ → Result (Option (List Entry)) ℕ
items_in (Err p) = Err p
items_in (Ok r) = Ok (or_none r.items)

-- `body_of w`     what the field w says
abbrev pub body_of : List ℕ → Result (Option (List Entry)) ℕ
body_of w = cond (is_byte 42 w) (Ok None) (items_in (read_from 0 (Ok empty) (parts 32 w)))
