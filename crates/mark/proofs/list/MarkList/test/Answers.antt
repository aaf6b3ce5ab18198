use Rattle.std.proofs.Common.{Some, None, ap, ◌∙◌}
use Rattle.mark.specs.Faults.{mark_fault}
use Rattle.mark.specs.Listed.{listed}
use Rattle.mark.proofs.Judgement.{judged}
use Rattle.mark.proofs.list.MarkList.test.Goals as goal

pub returns-in-Some-clause-law : goal.returns-in-Some-clause-law
returns-in-Some-clause-law c =
    judged c.args.length (listed c.args.self) (Some c.in-Some.fault) (c.in-Some.ensures ∙ ap (mark_fault c.args.length) c.as_slice.ensures.value)

pub returns-in-None-clause-law : goal.returns-in-None-clause-law
returns-in-None-clause-law c =
    judged c.args.length (listed c.args.self) None (c.in-None.ensures ∙ ap (mark_fault c.args.length) c.as_slice.ensures.value)
