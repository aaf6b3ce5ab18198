use Rattle.std.proofs.Common.{[], append-nil}
use Rattle.planner.proofs.Best.{whole}
use Rattle.planner.proofs.plan.Costs.best_letters.Goals as goal

pub returns : goal.returns
returns c = let end = c.in_default.ensures in rw append-nil at (c.loop-next.invariant.2 [] (whole end.0 end.1))
