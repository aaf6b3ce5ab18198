use Rattle.std.proofs.Common.{◌≡◌, ◌+◌, ◌≤◌, ◌++◌, map, length}
use Rattle.few.specs.Few.{entries}
use Rattle.parts.specs.Readers.{parts_left}
use Rattle.word.specs.Numbers.{code_of}
use Rattle.text.specs.Taking.{codes_in}
use Rattle.text.proofs.values.read_codes.Given as goal

abbrev pub invariant-loop-part : goal.invariant-loop-part
invariant-loop-part l =
    let ps = parts_left l.part-iterator in
    (goal.iterator-loop-part).can_next l.part-iterator × (goal.iterator-loop-part).is_finite l.part-iterator × (length (entries l.codes) + length ps ≤ 200) × (entries l.codes ++ map (λ p. code_of p.bytes) ps ≡ codes_in l.field)
