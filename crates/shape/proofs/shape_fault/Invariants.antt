use Rattle.shape.specs.Grammar.{shape_of}
use Rattle.shape.proofs.Going.{Going}
use Rattle.shape.proofs.shape_fault.Given as goal

abbrev pub invariant-loop-i : goal.invariant-loop-i
invariant-loop-i l = Going (shape_of l.fn.form) l.field l.i l.state
