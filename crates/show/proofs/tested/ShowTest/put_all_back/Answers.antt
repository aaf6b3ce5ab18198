use Rattle.std.proofs.Common.{◌≡◌, ℕ, suc, ◌-◌, ◌≤◌, [], ◌∷◌, ◌++◌, length, get_or, take, ap, sym, ◌∙◌, arith}
use Rattle.std.proofs.lemmas.Iterator.Adapters.{YieldsList-from_rev_slice}
use Rattle.std.proofs.lemmas.Iterator.Consumers.{YieldsList-turn}
use Rattle.std.proofs.lemmas.List.{length-take-le, length_push}
use Rattle.show.specs.Ends.{kept_by, undone}
use Rattle.show.specs.Held.{count_of, strip_of}
use Rattle.show.proofs.Numbers.{Cut, cut_of, from_end, within_turns}
use Rattle.show.proofs.Undo.{back_on, has_room}
use Rattle.show.proofs.tested.ShowTest.put_all_back.Goals as goal
use Rattle.show.proofs.tested.ShowTest.put_all_back.Goals.{After-within-boxes}

-- how many stretches are left behind this turn
rest : After-within-boxes → ℕ
rest c = c.args.self.now.m - 1 - length c.loop-stretch.yielded

-- the boxes of this turn are those of the last stretch that is left
cut : (c : After-within-boxes) → (c.args.self.now.m - length c.loop-stretch.yielded ≡ suc (rest c)) × Cut c.args.self.now.strip (length c.args.ink.now) (rest c) c.within-boxes.result
unfolding rest
cut c =
    let m = c.args.self.now.m in
    let ss = take m c.args.self.now.strip in
    let long : length ss ≡ m = length-take-le m c.args.self.now.strip (omega (arith, c.args.self.now.few, c.args.self.now.all)) in
    let k = length c.loop-stretch.yielded in
    let turn = YieldsList-turn (YieldsList-from_rev_slice {s = c.into_iter-stretch-iterator.result} ss (cc)) c.loop-stretch.yielded _ c.loop-stretch.yielded_by _ _ c.in-Some.stretch c.in-Some.is c.next.ensures.steps in
    let here = within_turns ss k c.in-Some.stretch.now turn in (
      omega (arith, here, long),
      cut_of c.args.self.now.strip m _ _ c.in-Some.stretch.now c.in-Some.stretch.now _ (omega (arith, here, long)) (from_end ss k c.in-Some.stretch.now turn ∙ ap (λ n. get_or ss (n - 1 - k) c.in-Some.stretch.now) long) (rw c.loop-stretch.auto.ink at c.within-boxes.ensures.start) (rw c.loop-stretch.auto.ink at c.within-boxes.ensures.end),
    )

-- their bytes are the last of those that are left, and those are among the saved ones
left : (c : After-within-boxes) → (c.within-boxes.result.end - c.within-boxes.result.start ≤ c.loop-stretch.at) × (c.loop-stretch.at ≤ 64)
left c =
    let passed = c.args.self.now in
    let n = length c.args.ink.now in
    let i = c.loop-stretch.invariant in
    let at = cut c in
    let counted = ap (kept_by (strip_of passed) n) at.0 in
    (omega (arith, counted, i.counted, at.1.start, at.1.end), omega (arith, counted, i.counted, has_room (strip_of passed) n (count_of passed) (rest c) (omega (arith, at.0)), passed.small))

pub overflow_sub-at : goal.overflow_sub-at
overflow_sub-at c = omega (arith, c.len-at.ensures, (left (goal.at.overflow_sub-at c).After-within-boxes).0)

pub put_back-requires-clause-room : goal.put_back-requires-clause-room
put_back-requires-clause-room c =
    let l = left (goal.at.put_back-requires-clause-room c).After-within-boxes in
    omega (arith, l.0, l.1, c.len-at.ensures)

pub loop-stretch-preserved : goal.loop-stretch-preserved
loop-stretch-preserved c =
    let w = (goal.at.loop-stretch-preserved c).After-within-boxes in
    let i = c.loop-stretch.invariant in
    let at = cut w in
    let back = back_on (strip_of c.args.self.now) c.args.saved.now c.loop-stretch.ink c.put_back.new.ink _ (length c.args.ink.now) (rest w) _ _ _ c.loop-stretch.at (omega (arith, at.0)) i.counted at.1.start at.1.end (rw c.len-at.ensures at c.put_back.ensures) i.same in
    let next : c.args.self.now.m - length (c.loop-stretch.yielded ++ c.in-Some.stretch ∷ []) ≡ rest w = omega (arith, at.0, length_push c.loop-stretch.yielded c.in-Some.stretch) in
    record {
      counted = rw c.len-at.ensures (back.0 ∙ sym (ap (kept_by (strip_of c.args.self.now) (length c.args.ink.now)) next));
      same = ap (λ j. undone (strip_of c.args.self.now) (length c.args.ink.now) c.args.saved.now j c.put_back.new.ink) next ∙ back.1;
    }
