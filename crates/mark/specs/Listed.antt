-- The marks that a list holds, in the order in which they were handed in.
use Rattle.std.specs.Prelude.{List, vec_items}
use Rattle.entry.specs.declared.mark.Mark.{Mark}
use Rattle.mark.specs.declared.list.MarkList.{MarkList}

abbrev pub listed : MarkList → List Mark
listed l = vec_items l.marks
