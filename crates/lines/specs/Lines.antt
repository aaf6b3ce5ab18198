-- The lines that are printed, as lists of bytes.
use Rattle.std.specs.Prelude.{ℕ, List, [], ◌∷◌, ◌++◌, map, decimal}
use Rattle.std.specs.List.{flat_map}
use Rattle.entry.specs.Named.{letters_of}
use Rattle.entry.specs.declared.name.Name.{Name}
use Rattle.refusal.specs.Numbers.{number_of}
use Rattle.refusal.specs.declared.Refusal.{Refusal}
use Rattle.walk.specs.Walk.{Order}
use Rattle.walk.specs.declared.letter.Letter.{Letter}
use Rattle.walk.specs.declared.letter.Letter.TheVariants.{L, R}
use Rattle.refusal.specs.Layers.{layer_text}
use Rattle.refusal.specs.declared.layer.Layer.{Layer}

-- `commaed fs`     the fields, each behind a comma
abbrev pub commaed : List (List ℕ) → List ℕ
commaed fs = flat_map (λ f. 44 ∷ f) fs

-- `line_of a fs`    the line with the letter a and the fields fs, ended by byte 10
abbrev pub line_of : ℕ → List (List ℕ) → List ℕ
line_of a fs = a ∷ (commaed fs ++ 10 ∷ [])

-- the letters L and R
abbrev pub letter_byte : Letter → ℕ
letter_byte L = 76
letter_byte R = 82

-- `order_text o`    the seed in decimal and the letters, with nothing between
abbrev pub order_text : Order → List ℕ
order_text o = decimal o.seed ++ map letter_byte o.letters

-- `p,NAME,ORDER,PRICE`
abbrev pub plan_line : Name → Order → ℕ → List ℕ
plan_line name o price = line_of 112 (letters_of name ∷ order_text o ∷ decimal price ∷ [])

-- `f,NAME,START,END,START,END,..`
abbrev pub find_line : Name → List ℕ → List ℕ
find_line name numbers = line_of 102 (letters_of name ∷ map decimal numbers)

-- `e,NAME,FINDS,BILL`
abbrev pub end_line : Name → ℕ → ℕ → List ℕ
end_line name finds bill = line_of 101 (letters_of name ∷ decimal finds ∷ decimal bill ∷ [])

-- `x,NUMBER,LAYER,LINE,PLACE`
abbrev pub fault_line : Refusal → Layer → ℕ → ℕ → List ℕ
fault_line refusal layer line place =
    line_of 120 (decimal (number_of refusal) ∷ layer_text layer ∷ decimal line ∷ decimal place ∷ [])
