-- What the rules of a book ask for.
use Rattle.std.specs.Prelude.{ℕ, ◌+◌, List, length, map}
use Rattle.entry.specs.Rules.{Net, net_of}
use Rattle.book.specs.Adding.{rules_in}
use Rattle.book.specs.declared.values.book.Book.{Book}

-- `nets_in b`        the rules of a book, in the order of their numbers
abbrev pub nets_in : Book → List Net
nets_in b = map net_of (rules_in b)

-- `motifs r`         how many motifs a rule has
abbrev pub motifs : Net → ℕ
motifs r = length r.rest + 1
