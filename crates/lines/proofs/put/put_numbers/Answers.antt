use Rattle.std.proofs.Common.{◌∷◌, decimal, rules}
use Rattle.lines.proofs.Passes.{all_short, commaed-numbers}
use Rattle.lines.proofs.put.put_numbers.Goals as goal

pub returns-in_err-put_number : goal.returns-in_err-put_number
returns-in_err-put_number g c =
    let left = rw commaed-numbers at (g.met.S.Sink.rest _ _ _ c.loop-n.invariant) in
    let short = all_short (λ n. 44 ∷ decimal n) _ _ _ _ c.from.result 0 c.loop-n-test.true c.from.ensures left c.in_err-put_number.ensures.1 in
    let all = rw (← commaed-numbers c.args.numbers.now) at short in
    let kind = c.in_err-put_number.ensures.0 in
    search rules
