use Rattle.std.proofs.Common.{◌≡◌, drop}
use Rattle.mark.specs.Faults.{fault_from, mark_fault}
use Rattle.mark.proofs.test.first_fault.Given as goal

abbrev pub invariant-loop-at : goal.invariant-loop-at
invariant-loop-at l = fault_from l.length l.previous l.at (drop l.at l.marks) ≡ mark_fault l.length l.marks
