use Rattle.std.proofs.Common.{◌≡◌, ◌-◌, ◌*◌, ◌++◌, map, take, drop, replicate}
use Rattle.sheet_model.specs.Strip.{numbers_of}
use Rattle.stack.specs.Frames.{stretch_of}
use Rattle.strip.proofs.put.Given as goal

abbrev pub invariant-loop-i : goal.invariant-loop-i
invariant-loop-i l = l.strip ≡ numbers_of (map stretch_of (take l.i l.stretches)) ++ (replicate (24 - 2 * l.i) 0 ++ drop 24 l.fn.strip)
