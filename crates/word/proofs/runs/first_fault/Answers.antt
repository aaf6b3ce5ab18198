use Rattle.std.proofs.Common.{true, false, not, length, refl, sym, inl, inr, arith}
use Rattle.std.proofs.lemmas.List.{length_push}
use Rattle.std.proofs.lemmas.Iterator.Consumers.{YieldsList-end, YieldsList-turn}
use Rattle.std.proofs.lemmas.Iterator.Splits.{YieldsList-from_slice_split}
use Rattle.word.proofs.Scan.{ends, fault_here, fault_within, walked_all, walked_more, walked_none}
use Rattle.word.proofs.runs.first_fault.Goals as goal

pub loop-run-init : goal.loop-run-init
loop-run-init g c = walked_none g.sort c.args.field.now

pub overflow_add-from-in-loop-run : goal.overflow_add-from-in-loop-run
overflow_add-from-in-loop-run g c =
    let t = YieldsList-turn (YieldsList-from_slice_split {s = c.into_iter-run-iterator.result} _ (λ b. not (g.sort.part b)) c.args.field.now (cc) (cc) (cc) c.requires.1.1.1.1.0) c.loop-run.yielded _ c.loop-run.yielded_by _ _ c.in-Some.run' c.in-Some.is c.next.ensures.steps in
    omega (arith, ends g.sort c.args.field.now (length c.loop-run.yielded) c.loop-run.from c.loop-run.invariant c.in-Some.run'.now t)

pub loop-run-preserved : goal.loop-run-preserved
loop-run-preserved g c =
    let t = YieldsList-turn (YieldsList-from_slice_split {s = c.into_iter-run-iterator.result} _ (λ b. not (g.sort.part b)) c.args.field.now (cc) (cc) (cc) c.requires.1.1.1.1.0) c.loop-run.yielded _ c.loop-run.yielded_by _ _ c.in-Some.run' c.in-Some.is c.next.ensures.steps in
    walked_more g.sort c.args.field.now (length c.loop-run.yielded) c.loop-run.from c.loop-run.invariant c.in-Some.run'.now t _ _ (length_push c.loop-run.yielded c.in-Some.run') refl (elim c.else-not-is_empty.branch [
      | goal.else-not-is_empty-via-then-not-is_empty+else-not-is_sound w ↦ inr (sym (c.requires.1.1.1.1.1 c.in-Some.run'.now true (record { shown = c.in-Some.run'; shows = refl; says = record { met = w.if-not-is_sound.ensures } })))
      | goal.else-not-is_empty-via-else-not-is_empty w ↦ inl (sym w.if-not-is_empty.ensures)
    ])

pub returns-then-not-is_sound : goal.returns-then-not-is_sound
returns-then-not-is_sound g c =
    let t = YieldsList-turn (YieldsList-from_slice_split {s = c.into_iter-run-iterator.result} _ (λ b. not (g.sort.part b)) c.args.field.now (cc) (cc) (cc) c.requires.1.1.1.1.0) c.loop-run.yielded _ c.loop-run.yielded_by _ _ c.in-Some.run' c.in-Some.is c.next.ensures.steps in
    let some = sym c.if-not-is_empty.ensures in
    record {
      within = fault_within g.sort c.args.field.now (length c.loop-run.yielded) c.loop-run.from c.loop-run.invariant c.in-Some.run'.now t some;
      value = fault_here g.sort c.args.field.now (length c.loop-run.yielded) c.loop-run.from c.loop-run.invariant c.in-Some.run'.now t some (sym (c.requires.1.1.1.1.1 c.in-Some.run'.now false (record { shown = c.in-Some.run'; shows = refl; says = record { met = c.if-not-is_sound.ensures } })));
    }

pub returns : goal.returns
returns g c =
    let t = YieldsList-end (YieldsList-from_slice_split {s = c.into_iter-run-iterator.result} _ (λ b. not (g.sort.part b)) c.args.field.now (cc) (cc) (cc) c.requires.1.1.1.1.0) c.loop-run.yielded _ c.loop-run.yielded_by _ _ c.in-None.is c.next.ensures.steps in
    record { within = tt; value = walked_all g.sort c.args.field.now (length c.loop-run.yielded) c.loop-run.from (omega (arith, t.1)) c.loop-run.invariant }
