use Rattle.planner.proofs.Agreement.{same_prices, same-plan}
use Rattle.planner.proofs.agreement_stands.Goals as goal

pub returns : goal.returns
returns c = record { prices = same_prices; plan = same-plan }
