-- What an opened row source means: the row and the book that passed the test.
use Rattle.source.specs.Meaning.{Meaning}
use Rattle.row.specs.Row.{row_meaning}
use Rattle.row.specs.Tested.{tested_book, tested_row}
use Rattle.row.specs.declared.opened.RowSource.{RowSource}

abbrev pub opened_meaning : RowSource → Meaning
opened_meaning s = row_meaning (tested_row s.tested) (tested_book s.tested)
