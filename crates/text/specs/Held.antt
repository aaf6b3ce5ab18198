-- What a reader of a line holds.
use Rattle.std.specs.Prelude.{ℕ, List, Ok, Err, Result}
use Rattle.few.specs.Few.{entries}
use Rattle.entry.specs.Rules.{Link, links_of}
use Rattle.entry.specs.declared.range.Range.{Range}
use Rattle.net.specs.declared.Bounds.{Bounds}
use Rattle.text.specs.declared.steps.Steps.{Steps}

abbrev pub motifs_held : Steps → List ℕ
motifs_held s = entries s.motifs

abbrev pub steps_held : Steps → List Link
steps_held s = links_of (motifs_held s) (entries s.ranges)

abbrev pub steps_or : Result Steps ℕ → Result (List Link) ℕ
steps_or (Ok s) = Ok (steps_held s)
steps_or (Err p) = Err p

abbrev pub bounds_in : Range → Bounds
bounds_in g = record { low = g.low; high = g.high }
