use Rattle.entry.specs.Rules.{net_of}
use Rattle.rules.specs.Nets.{nets_in}
use Rattle.walk.specs.Asked.{rule_numbered}
use Rattle.plan.specs.Weighed.{weight_in}
use Rattle.plan.proofs.Answered.{too_many, weighed_ok}
use Rattle.plan.proofs.Known.{known_in}
use Rattle.plan.proofs.weighs.weigh.Goals as goal

pub returns-then-boxes-gt20000 : goal.returns-then-boxes-gt20000
returns-then-boxes-gt20000 c =
    record { refused = too_many (weight_in c.args.book.now) c.args.boxes (rule_numbered (nets_in c.args.book.now) c.args.rule) c.if-boxes-gt20000.true; value = tt }

pub invariant_of-weighing : goal.invariant_of-weighing
invariant_of-weighing c =
    record { short = c.if-boxes-gt20000.false; known = known_in c.args.book.now c.args.rule (net_of c.in_ok-rule.rule.now) (rw c.in_ok-rule.ensures.ok_part at c.rule_at.ensures) }

pub returns : goal.returns
returns c =
    let W = weight_in c.args.book.now in
    let asked = rule_numbered (nets_in c.args.book.now) c.args.rule in
    let answer = weighed_ok W c.args.boxes (net_of c.in_ok-rule.rule.now) c.in_ok-runs.field-0 c.if-boxes-gt20000.false c.in_ok-runs.ensures asked
    (rw c.in_ok-rule.ensures.ok_part at c.rule_at.ensures) c.new.result c.new.ensures.refused c.new.ensures.value in
    record { refused = answer.refused; value = answer.value }
