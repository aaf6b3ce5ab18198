-- The letters of a name, and names among others of their kind.
use Rattle.std.specs.Prelude.{ℕ, Bool, List, Option}
use Rattle.std.specs.List.{list_any, position_from}
use Rattle.std.specs.Str.{bytes_eq}
use Rattle.entry.specs.declared.name.Name.{Name}
use Rattle.few.specs.Few.{entries}

abbrev pub letters_of : Name → List ℕ
letters_of n = entries n.letters

-- `taken name names`      one of the names is this one
abbrev pub taken : List ℕ → List (List ℕ) → Bool
taken name names = list_any (bytes_eq name) names

-- `number_in name names`  the number of the first that is, from 0
abbrev pub number_in : List ℕ → List (List ℕ) → Option ℕ
number_in name names = position_from (bytes_eq name) 0 names
