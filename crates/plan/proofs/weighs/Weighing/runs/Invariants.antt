use Rattle.entry.specs.Rules.{net_of}
use Rattle.forecast.specs.Runs.{number_at}
use Rattle.plan.specs.Weighed.{Begun, weighed, weight_in}
use Rattle.plan.proofs.weighs.Weighing.runs.Given as goal

abbrev pub invariant-loop-first : goal.invariant-loop-first
invariant-loop-first l = Begun (weighed (weight_in l.self.book.now) l.self.boxes (net_of l.self.rule.now)) (number_at l.runs) l.first l.first

abbrev pub invariant-loop-last : goal.invariant-loop-last
invariant-loop-last l = Begun (weighed (weight_in l.self.book.now) l.self.boxes (net_of l.self.rule.now)) (number_at l.runs) l.first l.last
