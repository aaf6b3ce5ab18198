-- The kind of a line, and its fields, which are parts of it, each with its place.
use Rattle.std.specs.Prelude.{ℕ, cond, List, [], ◌∷◌, Some, None, Option, ◌==◌}
use Rattle.parts.specs.Parts.{left}
pub use Rattle.parts.specs.Parts.{Placed, placed}
use Rattle.word.specs.Fields.{bytes_of}
use Rattle.word.specs.declared.field.Field.{Field}
use Rattle.line.specs.declared.kinds.Kind.{Kind}
use Rattle.line.specs.declared.kinds.Kind.TheVariants.{Motif, Rule, Boxes, Mark}

-- the letters m, r, b and s
abbrev pub letter_kind : ℕ → Option Kind
letter_kind a = cond (a == 109) (Some Motif) (cond (a == 114) (Some Rule) (cond (a == 98) (Some Boxes) (cond (a == 115) (Some Mark) None)))

-- `kind_in l`        the kind of a line, which begins with its letter and a comma
abbrev pub kind_in : List ℕ → Option Kind
kind_in [] = None
kind_in (a ∷ []) = None
kind_in (a ∷ b ∷ l) = cond (b == 44) (letter_kind a) None

-- how many commas a line of the kind has
abbrev pub commas_of : Kind → ℕ
commas_of Motif = 3
commas_of Rule = 2
commas_of Boxes = 1
commas_of Mark = 3

-- `fields l`        the fields of a line behind its letter
abbrev pub fields : List ℕ → List Placed
fields l = placed 2 (left 44 l 2)

abbrev pub placed_of : Field → Placed
placed_of f = record { at = f.from; bytes = bytes_of f }
