use Rattle.std.proofs.Common.{◌+◌, ◌-◌, ◌*◌, get_or, drop, sym, arith}
use Rattle.word.proofs.Figures.{decimal_ge, decimal-more, plain-far}
use Rattle.word.proofs.numbers.digits.Goals as goal

pub returns-then-n-gt-FURTHEST : goal.returns-then-n-gt-FURTHEST
returns-then-n-gt-FURTHEST c =
    let ds = c.args.ds.now in
    let i = c.loop-b.b-index in
    let n = c.loop-b.n * 10 + (get_or ds i 0 - 48) in
    plain-far ds (omega (arith, c.if-n-gt-FURTHEST.true, c.from.ensures, decimal_ge n (drop (i + 1) ds), decimal-more ds i c.loop-b.n c.loop-b-test.true (sym c.if-not-is_ascii_digit.ensures.value) c.loop-b.invariant.1))
