use Rattle.forecast.specs.Runs.{number_at}
use Rattle.planner.specs.Terms.{terms}
use Rattle.planner.specs.Best.{Chosen}
use Rattle.planner.proofs.plan.Costs.best_seed.Given as goal

abbrev pub invariant-loop-seed : goal.invariant-loop-seed
invariant-loop-seed l = Chosen (terms l.self.pricing) (number_at l.self.least.now) l.seed l.best.0 l.best.1
