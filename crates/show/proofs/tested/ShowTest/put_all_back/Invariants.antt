use Rattle.std.proofs.Common.{◌-◌, length}
use Rattle.show.specs.Held.{count_of, strip_of}
use Rattle.show.proofs.Undo.{Undoing}
use Rattle.show.proofs.tested.ShowTest.put_all_back.Given as goal

abbrev pub invariant-loop-stretch : goal.invariant-loop-stretch
invariant-loop-stretch l = Undoing (strip_of l.self) (count_of l.self) (count_of l.self - length l.yielded) l.saved l.initial.ink l.ink l.at
