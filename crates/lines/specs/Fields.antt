-- The fields of a line as the code holds them, and how they lie over bytes.
use Rattle.std.specs.Prelude.{◌≡◌, ℕ, ◌+◌, List, ◌∷◌, ◌++◌, map, length, take, drop, decimal}
use Rattle.walk.specs.Asked.{order_of}
use Rattle.lines.specs.Lines.{commaed, order_text}
use Rattle.lines.specs.declared.field.Field.{Field}
use Rattle.lines.specs.declared.field.Field.TheVariants.{Text, Number, Looks, Numbers}

-- `field_text f`    a field behind its comma; numbers are a field each
abbrev pub field_text : Field → List ℕ
field_text (Text bytes) = 44 ∷ bytes.now
field_text (Number n) = 44 ∷ decimal n
field_text (Looks o) = 44 ∷ order_text (order_of o)
field_text (Numbers ns) = commaed (map decimal ns.now)

-- `laid at text before`  the bytes with the text put over them from a place on
abbrev pub laid : ℕ → List ℕ → List ℕ → List ℕ
laid at text before = take at before ++ (text ++ drop (at + length text) before)

-- `Put at text before after end`  the text was put there, and ends there; the bytes are as many as they were
pub record Put (at : ℕ) (text before after : List ℕ) (end : ℕ) : Type 0 where
  pub bytes : after ≡ laid at text before
  pub ends : end ≡ at + length text
  pub same : length after ≡ length before
