-- What the items of a body are, however they are kept.
use Rattle.std.specs.Prelude.{ℕ, List, map, Some, None, Option}
use Rattle.entry.specs.Bodies.{codes_of, items_of}
use Rattle.entry.specs.declared.body.Body.{Body}
use Rattle.entry.specs.declared.body.Item.{Item}
use Rattle.entry.specs.declared.body.Item.TheVariants.{Code, Any, Class}

pub data Entry : Type 0 where
  code : ℕ → Entry
  any : Entry
  one_of : List ℕ → Entry

abbrev pub entry_of : Item → Entry
entry_of (Code c) = code c
entry_of Any = any
entry_of (Class c) = one_of (codes_of c)

-- `entries_of b`   the items of a body, none where there is no body
abbrev pub entries_of : Option Body → Option (List Entry)
entries_of None = None
entries_of (Some b) = Some (map entry_of (items_of b))
