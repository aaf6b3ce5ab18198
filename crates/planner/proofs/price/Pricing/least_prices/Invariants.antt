use Rattle.forecast.specs.Runs.{number_at}
use Rattle.planner.specs.Terms.{terms}
use Rattle.planner.specs.Best.{Rows, Row}
use Rattle.planner.proofs.price.Pricing.least_prices.Given as goal

abbrev pub invariant-loop-first : goal.invariant-loop-first
invariant-loop-first l = Rows (terms l.self) (number_at l.costs) l.first

abbrev pub invariant-loop-last : goal.invariant-loop-last
invariant-loop-last l =
    Rows (terms l.self) (number_at l.costs) l.first
    × Row (terms l.self) (number_at l.costs) l.first l.last
