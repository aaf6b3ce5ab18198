use Rattle.std.proofs.Common.{map, take}
use Rattle.std.specs.List.{AllByRecursion}
use Rattle.body.specs.Entries.{entry_of}
use Rattle.writing.specs.Bodies.{Lawful}
use Rattle.round_trip.proofs.keeps.items_keep.Given as goal

abbrev pub invariant-loop-item : goal.invariant-loop-item
invariant-loop-item l = AllByRecursion Lawful (map entry_of (take l.item-index l.items))
