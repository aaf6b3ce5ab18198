use Rattle.std.proofs.Common.{sym, subst, arith}
use Rattle.line.specs.Said.{said}
use Rattle.text.specs.Sound.{Sound}
use Rattle.text.proofs.Soundness.{sound}
use Rattle.text.proofs.takes.take_line.Goals as goal

pub take_motif-requires : goal.take_motif-requires
take_motif-requires c =
    let e = c.in_ok-name.ensures in
    let s = subst (λ x. Sound 198 (said x)) c.in-Motif.is (subst (Sound 198) (sym e.value) (sound c.args.line.now 198 (omega arith) (sym e.refused))) in
    record { named = s.0; few = s.1 }

pub take_rule-requires : goal.take_rule-requires
take_rule-requires c =
    let e = c.in_ok-name.ensures in
    let s = subst (λ x. Sound 198 (said x)) c.in-Rule.is (subst (Sound 198) (sym e.value) (sound c.args.line.now 198 (omega arith) (sym e.refused))) in
    s

pub take_boxes-requires : goal.take_boxes-requires
take_boxes-requires c =
    let e = c.in_ok-name.ensures in
    let s = subst (λ x. Sound 198 (said x)) c.in-Boxes.is (subst (Sound 198) (sym e.value) (sound c.args.line.now 198 (omega arith) (sym e.refused))) in
    s

pub take_mark-requires : goal.take_mark-requires
take_mark-requires c =
    let e = c.in_ok-name.ensures in
    let s = subst (λ x. Sound 198 (said x)) c.in-Mark.is (subst (Sound 198) (sym e.value) (sound c.args.line.now 198 (omega arith) (sym e.refused))) in
    s
