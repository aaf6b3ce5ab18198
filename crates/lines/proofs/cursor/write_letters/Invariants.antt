use Rattle.std.proofs.Common.{◌≡◌, length, map, take}
use Rattle.lines.specs.Lines.{letter_byte}
use Rattle.lines.proofs.cursor.write_letters.Given as goal

abbrev pub invariant-loop-k : goal.invariant-loop-k
invariant-loop-k l = (length l.out ≡ length l.letters) × (take l.k l.out ≡ map letter_byte (take l.k l.letters))
