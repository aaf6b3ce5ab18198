use Rattle.std.proofs.Common.{drop}
use Rattle.planner.specs.Terms.{terms}
use Rattle.planner.specs.Best.{Walked}
use Rattle.planner.proofs.price.Pricing.letters_price.Given as goal

abbrev pub invariant-loop-letter : goal.invariant-loop-letter
invariant-loop-letter l =
    Walked (terms l.self) l.order.seed l.order.letters.now l.run.first l.run.last (drop l.letter-index l.letter-items) l.price
