use Rattle.std.proofs.Common.{◌≡◌, ◌≤◌, length, Ok}
use Rattle.std.specs.List.{AllByRecursion}
use Rattle.parts.specs.Parts.{parts}
use Rattle.parts.specs.Readers.{parts_left}
use Rattle.body.specs.Bodies.{empty, read_all, read_from}
use Rattle.body.specs.Readers.{read_so_far}
use Rattle.body.proofs.read_items.Given as goal

abbrev pub invariant-loop-part : goal.invariant-loop-part
invariant-loop-part l =
    let ps = parts_left l.part-iterator in
    (goal.iterator-loop-part).can_next l.part-iterator × (goal.iterator-loop-part).is_finite l.part-iterator × AllByRecursion (λ p. p.at ≤ length l.field) ps × (read_all (Ok (read_so_far l.reader)) ps ≡ read_from 0 (Ok empty) (parts 32 l.field))
