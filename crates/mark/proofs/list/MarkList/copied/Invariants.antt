use Rattle.std.proofs.Common.{vec_items}
use Rattle.mark.proofs.Copies.{Keyed}
use Rattle.mark.proofs.list.MarkList.copied.Given as goal

abbrev pub invariant-loop-mark : goal.invariant-loop-mark
invariant-loop-mark l = Keyed l.marks l.mark-index (vec_items l.ends)
