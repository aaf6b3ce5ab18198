use Rattle.std.proofs.Common.{length, sym, ap, add-one, arith}
use Rattle.show.specs.Numbers.{numbers}
use Rattle.show.specs.Stretches.{boxes}
use Rattle.show.proofs.Numbers.{numbers-end, numbers-start}
use Rattle.show.proofs.Passing.{fails, passes_on, turned_down}
use Rattle.show.proofs.checks.all_pass.Goals as goal
use Rattle.show.proofs.checks.all_pass.Goals.{then-stretch-via-then-stretch, then-stretch-via-else-stretch+then-stretch-ink_len, then-stretch-via-else-stretch+else-stretch-ink_len+then-len-room}

pub returns-then-stretch : goal.returns-then-stretch
returns-then-stretch c =
    let ss = c.args.stretches.now in
    let k = c.loop-stretch.stretch-index in
    let s = numbers-start ss k (record { start = 0; end = 0 }) c.loop-stretch-test.true in
    let e = numbers-end ss k (record { start = 0; end = 0 }) c.loop-stretch-test.true in
    sym (fails (numbers ss) c.args.ink_len (length ss) k c.loop-stretch-test.true (turned_down (numbers ss) c.args.ink_len k (λ p q. elim c.then-stretch.branch [ then-stretch-via-then-stretch w ↦ omega (arith, s, e, w.if-stretch.true) | then-stretch-via-else-stretch+then-stretch-ink_len w ↦ omega (arith, s, e, w.if-stretch-ink_len.true) | then-stretch-via-else-stretch+else-stretch-ink_len+then-len-room w ↦ omega (arith, s, e, w.len.ensures, w.if-len-room.true, c.loop-stretch.invariant.0) ])))

pub loop-stretch-preserved : goal.loop-stretch-preserved
loop-stretch-preserved c =
    let ss = c.args.stretches.now in
    let k = c.loop-stretch.stretch-index in
    let s = numbers-start ss k (record { start = 0; end = 0 }) c.loop-stretch-test.true in
    let e = numbers-end ss k (record { start = 0; end = 0 }) c.loop-stretch-test.true in (
      omega (arith, c.loop-stretch.invariant.0, ap (boxes (numbers ss)) (add-one k), s, e, c.len.ensures, c.len-room.ensures),
      passes_on (numbers ss) c.args.ink_len k c.loop-stretch.invariant.1 (omega (arith, s, e)) (omega (arith, e)) (omega (arith, c.loop-stretch.invariant.0, s, e, c.len.ensures)),
    )
