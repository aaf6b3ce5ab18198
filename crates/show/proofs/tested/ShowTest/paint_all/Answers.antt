use Rattle.std.proofs.Common.{◌+◌, ◌-◌, ◌≤◌, length, refl, ap, arith}
use Rattle.std.proofs.lemmas.List.{length-take}
use Rattle.show.specs.Held.{count_of, strip_of}
use Rattle.show.proofs.Numbers.{Cut, cut-at}
use Rattle.show.proofs.Undo.{has_room, painting_on}
use Rattle.show.proofs.tested.ShowTest.paint_all.Goals as goal
use Rattle.show.proofs.tested.ShowTest.paint_all.Goals.{After-within-boxes}

-- the boxes of this turn are those of its stretch
cut : (c : After-within-boxes) → Cut c.args.self.now.strip (length c.args.ink.now) c.loop-k.k c.within-boxes.result
cut c = cut-at _ _ _ _ _ _ _ c.shown-stretch-items.ensures c.loop-k-test.true (rw c.loop-k.auto.ink at c.within-boxes.ensures.start) (rw c.loop-k.auto.ink at c.within-boxes.ensures.end)

-- their bytes have room among the saved ones
fits : (c : After-within-boxes) → c.loop-k.at + (c.within-boxes.result.end - c.within-boxes.result.start) ≤ 64
fits c =
    let passed = c.args.self.now in
    let at = cut c in
    omega (arith, has_room (strip_of passed) (length c.args.ink.now) (count_of passed) c.loop-k.k (omega (arith, ap length c.shown-stretch-items.ensures, length-take passed.m passed.strip)), passed.small, c.loop-k.invariant.counted, at.start, at.end)

pub loop-k-init : goal.loop-k-init
loop-k-init c = record { counted = refl; shown = λ i h. refl; undoes = refl; long = refl; room = refl }

pub paint-requires-clause-room : goal.paint-requires-clause-room
paint-requires-clause-room c = omega (arith, fits (goal.at.paint-requires-clause-room c).After-within-boxes, c.loop-k.invariant.room)

pub overflow_add-at : goal.overflow_add-at
overflow_add-at c = omega (arith, fits (goal.at.overflow_add-at c).After-within-boxes)

pub loop-k-preserved : goal.loop-k-preserved
loop-k-preserved c =
    let w = (goal.at.loop-k-preserved c).After-within-boxes in
    let at = cut w in
    rw c.len-at.ensures (painting_on (strip_of c.args.self.now) c.args.ink.now c.loop-k.ink c.loop-k.saved c.paint.new.ink c.paint.new.saved c.loop-k.k _ _ c.loop-k.at _ c.loop-k.invariant at.start at.end refl (fits w) c.paint.ensures.painted c.paint.ensures.kept)
