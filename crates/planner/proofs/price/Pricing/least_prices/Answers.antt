use Rattle.std.proofs.Common.{◌≡◌, ◌+◌, ◌-◌, MatchOption, arith, rules}
use Rattle.forecast.specs.Runs.{number_at}
use Rattle.planner.specs.Terms.{terms}
use Rattle.planner.specs.Best.{Ahead, Rows, Row}
use Rattle.planner.proofs.Table.{ahead, least_of, rows_kept, row_more, rows_more}
use Rattle.planner.proofs.price.Pricing.least_prices.Goals as goal

pub extend-next-requires-clause-ahead : goal.extend-next-requires-clause-ahead
extend-next-requires-clause-ahead c = ahead _ _ _ _ (omega arith) (omega arith) (omega arith) c.loop-last.invariant.0 (λ j le end. c.loop-last.invariant.1 j (omega arith) end)

pub loop-last-preserved : goal.loop-last-preserved
loop-last-preserved c =
    let t = terms c.args.self.now in
    let first = c.loop-first.first in
    let last = c.loop-last.last - 1 in
    let costs = number_at c.loop-last.costs in
    let price = c.map_or.result in
    let rows : Rows t costs first = c.loop-last.invariant.0 in
    let row : Row t costs first (last + 1) = λ j le end. c.loop-last.invariant.1 j (omega arith) end in
    let next : Ahead t costs first last = ahead t costs first last (omega arith) (omega arith) (omega arith) rows row in
    let is : MatchOption c.extend-next.result (price ≡ 0) (λ n. price ≡ n.price) = search rules in
    let known = least_of t costs first last price c.extend-next.result next c.extend-next.ensures is in (
      rows_kept c.loop-last.costs c.put.new.self first last price c.put.ensures t rows,
      row_more c.loop-last.costs c.put.new.self first last price c.put.ensures t (omega arith) (omega arith) (omega arith) (omega arith) known.0 known.1 row,
    )

pub loop-first-preserved : goal.loop-first-preserved
loop-first-preserved c = rows_more _ _ _ _ c.loop-last.invariant.0 c.loop-last.invariant.1 c.loop-last-test.false
