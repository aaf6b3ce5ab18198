use Rattle.theorem.proofs.Whole.{whole-stands}
use Rattle.theorem.proofs.whole_stands.Goals as goal

pub returns : goal.returns
returns c = whole-stands
