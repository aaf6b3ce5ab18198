use Rattle.planner.proofs.Laws.{counted-price}
use Rattle.planner.proofs.counted_price_stands.Goals as goal

pub returns : goal.returns
returns c = counted-price
