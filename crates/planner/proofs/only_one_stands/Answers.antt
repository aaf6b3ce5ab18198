use Rattle.planner.proofs.Only.{only_one}
use Rattle.planner.proofs.only_one_stands.Goals as goal

pub returns : goal.returns
returns c = only_one
