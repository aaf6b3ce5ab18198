-- The bytes of a field.
use Rattle.std.specs.Prelude.{ℕ, List}
use Rattle.std.specs.List.{between}
use Rattle.word.specs.declared.field.Field.{Field}

abbrev pub bytes_of : Field → List ℕ
bytes_of f = between f.from f.to f.line.now
