use Rattle.std.proofs.Common.{vec_items, sym, ap, ◌∙◌}
use Rattle.mark.specs.Marks.{any_mark}
use Rattle.mark.proofs.Copies.{ends_say, keyed_all, keyed_more}
use Rattle.mark.proofs.list.MarkList.copied.Goals as goal

pub loop-mark-preserved : goal.loop-mark-preserved
loop-mark-preserved c =
    keyed_more c.args.marks.now c.loop-mark.mark-index _ (vec_items c.loop-mark.ends) (vec_items c.push.new.self) c.by_end.result c.loop-mark-test.true c.loop-mark.invariant c.by_end.ensures c.in_ok-push.ensures.items

pub invariant_of-result-clause-ends_say : goal.invariant_of-result-clause-ends_say
invariant_of-result-clause-ends_say c k a b =
    let made = keyed_all c.args.marks.now c.loop-mark.mark-index (vec_items c.loop-mark.ends) c.loop-mark-test.false c.loop-mark.invariant in
    ends_say c.args.marks.now (vec_items c.loop-mark.ends) (vec_items c.sort.new.self) made c.in_ok-sort.ensures.permutation k a b ∙ ap (λ ms. any_mark ms k a b) (sym (c.in_ok-marks.ensures.items_if_clones_equal (λ x y e. e)))
