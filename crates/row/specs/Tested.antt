-- What a test that passed holds: the very row and the very book that were handed in.
use Rattle.std.specs.Prelude.{ℕ, List}
use Rattle.book.specs.declared.values.book.Book.{Book}
use Rattle.row.specs.declared.tested.RowTest.{RowTest}

-- `tested_row t`     the codes of the row, box by box
abbrev pub tested_row : RowTest → List ℕ
tested_row t = t.row.now

-- `tested_book t`    the book
abbrev pub tested_book : RowTest → Book
tested_book t = t.book.now
