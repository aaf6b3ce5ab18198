-- What a box reads to a call that opens a show for its own use.
use Rattle.std.specs.Prelude.{ℕ, cond, List, length, Some, None, Option, nat_lt, slice_index}
use Rattle.show.specs.Stretches.{reads}

-- `read_at strip m xs i`  what box i of the ink xs reads under the show, none where there is no such box
abbrev pub read_at : List ℕ → ℕ → List ℕ → ℕ → Option ℕ
read_at strip m xs i = cond (nat_lt i (length xs)) (Some (reads strip m i (slice_index xs i))) None
