-- What a reader of parts yields, and what it has left.
use Rattle.std.specs.Prelude.{List}
use Rattle.parts.specs.Parts.{Placed, left, placed}
use Rattle.parts.specs.declared.Part.{Part}
use Rattle.parts.specs.declared.Parts.{Parts}

-- `as_placed p`    the part p that was yielded
abbrev pub as_placed : Part → Placed
as_placed p = record { at = p.from; bytes = p.bytes.now }

-- `parts_left s`   the parts that the reader s has left
abbrev pub parts_left : Parts → List Placed
parts_left s = placed s.from (left s.byte s.text.now s.from)
