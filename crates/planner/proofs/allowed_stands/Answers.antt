use Rattle.planner.proofs.Laws.{allowed-completes}
use Rattle.planner.proofs.allowed_stands.Goals as goal

pub returns : goal.returns
returns c = allowed-completes
