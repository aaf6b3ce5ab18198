use Rattle.std.proofs.Common.{map, take}
use Rattle.std.specs.List.{AllByRecursion}
use Rattle.text.specs.Pages.{motif_entry}
use Rattle.writing.specs.Motifs.{LawfulMotif}
use Rattle.round_trip.proofs.keeps.motifs_keep.Given as goal

abbrev pub invariant-loop-motif : goal.invariant-loop-motif
invariant-loop-motif l = AllByRecursion LawfulMotif (map motif_entry (take l.motif-index l.motifs))
