use Rattle.planner.proofs.Extend.{left_leads, right_leads, left_alone, right_alone}
use Rattle.planner.proofs.price.Pricing.extend.Goals as goal

pub returns-in-Some-Some : goal.returns-in-Some-Some
returns-in-Some-Some c = left_leads _ _ _ _ c.requires.ahead c.way-left.ensures c.way-right.ensures c.in-Some-Some.is-0 c.in-Some-Some.is-1 c.if-l-r.true

pub returns-in_default-Some : goal.returns-in_default-Some
returns-in_default-Some c = right_leads _ _ _ _ c.requires.ahead c.way-left.ensures c.way-right.ensures c.in-Some-Some.is-0 c.in-Some-Some.is-1 c.if-l-r.false

pub returns-in_default-Some-2 : goal.returns-in_default-Some-2
returns-in_default-Some-2 c = right_alone _ _ _ _ c.requires.ahead c.way-left.ensures c.way-right.ensures c.in_default-Some.is-0 c.in_default-Some.is-1

pub returns-in_default : goal.returns-in_default
returns-in_default c = left_alone _ _ _ _ c.requires.ahead c.way-left.ensures c.way-right.ensures c.in_default.is-0 c.in_default.is-1
