use Rattle.std.proofs.Common.{length}
use Rattle.word.proofs.Scan.{Walked}
use Rattle.word.proofs.runs.first_fault.Given as goal

abbrev pub invariant-loop-run : goal.invariant-loop-run
invariant-loop-run g l = Walked g.sort l.field (length l.yielded) l.from
