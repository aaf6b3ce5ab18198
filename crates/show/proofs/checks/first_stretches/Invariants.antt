use Rattle.std.proofs.Common.{◌≡◌, ◌*◌, length, take}
use Rattle.show.specs.Numbers.{numbers}
use Rattle.show.proofs.checks.first_stretches.Given as goal

abbrev pub invariant-loop-k : goal.invariant-loop-k
invariant-loop-k l = (length l.stretches ≡ 12) × (numbers (take l.k l.stretches) ≡ take (2 * l.k) l.strip)
