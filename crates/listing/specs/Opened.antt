-- What the sources of a chapter mean, and what the call that opens them may answer.
use Rattle.std.specs.Prelude.{◌≡◌, length, None, Some, Ok, Err, Result, ⊤}
use Rattle.book.specs.Adding.{marks_of, row_of}
use Rattle.book.specs.declared.values.chapter.Chapter.{Chapter}
use Rattle.layer.specs.Layers.{both}
use Rattle.listing.specs.declared.open_error.OpenError.{OpenError}
use Rattle.listing.specs.declared.open_error.OpenError.TheVariants.{Marks, Memory}
use Rattle.mark.specs.Faults.{mark_fault}
use Rattle.mark.specs.Marks.{mark_meaning}
use Rattle.row.specs.Row.{row_meaning}
use Rattle.source.specs.Meaning.{Meaning}

-- the chapter's row, asked for the motifs of its book
abbrev pub row_meaning_of : Chapter → Meaning
row_meaning_of c = row_meaning (row_of c) c.book

-- its marks, in the length of its row
abbrev pub marks_meaning : Chapter → Meaning
marks_meaning c = mark_meaning (length (row_of c)) (marks_of c)

abbrev pub both_meaning : Chapter → Meaning
both_meaning c = both (row_meaning_of c) (marks_meaning c)

-- `OpenAnswer c r`   the answer r is a source only where the chapter's marks pass their test, and tells their fault only where that is it
abbrev pub OpenAnswer : {S : Type 0} → Chapter → Result S OpenError → Type 0
OpenAnswer c (Ok s) = mark_fault (length (row_of c)) (marks_of c) ≡ None
OpenAnswer c (Err (Marks fault)) = mark_fault (length (row_of c)) (marks_of c) ≡ Some fault
OpenAnswer c (Err (Memory e)) = ⊤
