-- What a reader of a body has read.
use Rattle.std.specs.Prelude.{ℕ, List, map, Some, None, Ok, Err, Option, Result}
use Rattle.few.specs.Few.{entries}
use Rattle.few.specs.declared.list.Few.{Few}
use Rattle.entry.specs.declared.body.Body.{Body}
use Rattle.entry.specs.declared.body.Item.{Item}
use Rattle.body.specs.Entries.{Entry, entry_of, entries_of}
use Rattle.body.specs.Bodies.{Reading}
use Rattle.body.specs.declared.Reader.{Reader}

abbrev pub items_kept : Few Item 16 → List Entry
items_kept s = map entry_of (entries s)

abbrev pub class_kept : Option (Few ℕ 8) → Option (List ℕ)
class_kept None = None
class_kept (Some c) = Some (entries c)

abbrev pub read_so_far : Reader → Reading
read_so_far r = record { items = items_kept r.items; class = class_kept r.class }

abbrev pub read_or : Result Reader ℕ → Result Reading ℕ
read_or (Ok r) = Ok (read_so_far r)
read_or (Err p) = Err p

abbrev pub body_or : Result (Option Body) ℕ → Result (Option (List Entry)) ℕ
body_or (Ok b) = Ok (entries_of b)
body_or (Err p) = Err p
