use Rattle.planner.proofs.Whole.{planned}
use Rattle.planner.proofs.plan.Costs.plan.Goals as goal

pub returns : goal.returns
returns c = planned _ _ _ _ _ c.requires c.best_seed-seed.ensures c.best_letters.ensures
