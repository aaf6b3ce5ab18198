-- The ink as a show leaves it at its end.
use Rattle.std.specs.Prelude.{ℕ, List, length}
use Rattle.show.specs.Ends.{undone}
use Rattle.show.specs.Held.{count_of, strip_of}
use Rattle.show.specs.declared.guard.Show.{Show}

abbrev pub ended : Show → List ℕ
ended s = undone (strip_of s.passed) (length s.ink.now) s.saved (count_of s.passed) s.ink.now
