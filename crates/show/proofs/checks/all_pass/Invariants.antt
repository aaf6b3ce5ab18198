use Rattle.std.proofs.Common.{◌≡◌, ◌+◌, true}
use Rattle.show.specs.Faults.{pass_all}
use Rattle.show.specs.Numbers.{numbers}
use Rattle.show.specs.Stretches.{boxes}
use Rattle.show.proofs.checks.all_pass.Given as goal

abbrev pub invariant-loop-stretch : goal.invariant-loop-stretch
invariant-loop-stretch l = (l.room + boxes (numbers l.stretches) l.stretch-index ≡ 64) × (pass_all (numbers l.stretches) l.ink_len l.stretch-index ≡ true)
