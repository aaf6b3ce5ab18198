use Rattle.std.proofs.Common.{◌≡◌, ◌≤◌, drop}
use Rattle.std.specs.Str.{all_ascii_digits}
use Rattle.std.specs.Str.Parse.{digits_value, digits_value_after}
use Rattle.word.proofs.numbers.digits.Given as goal

abbrev pub invariant-loop-b : goal.invariant-loop-b
invariant-loop-b l =
    (l.n ≤ 1000000) × (digits_value_after 10 l.n (drop l.b-index l.ds) ≡ digits_value 10 l.ds) × (all_ascii_digits (drop l.b-index l.ds) ≡ all_ascii_digits l.ds)
