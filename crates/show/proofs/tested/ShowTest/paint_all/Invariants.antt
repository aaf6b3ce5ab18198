use Rattle.show.proofs.Undo.{Painting}
use Rattle.show.specs.Held.{strip_of}
use Rattle.show.proofs.tested.ShowTest.paint_all.Given as goal

abbrev pub invariant-loop-k : goal.invariant-loop-k
invariant-loop-k l = Painting (strip_of l.self) l.k l.initial.ink l.ink l.saved l.at
