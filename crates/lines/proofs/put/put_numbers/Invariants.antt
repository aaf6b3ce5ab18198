use Rattle.std.proofs.Common.{map, take, decimal}
use Rattle.lines.specs.Lines.{commaed}
use Rattle.lines.proofs.put.put_numbers.Given as goal

abbrev pub invariant-loop-n : goal.invariant-loop-n
invariant-loop-n g l = g.S.Sink.took l.initial.sink (commaed (map decimal (take l.n-index l.numbers))) l.sink
