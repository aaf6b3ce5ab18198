use Rattle.entry.specs.Rules.{net_of}
use Rattle.rules.specs.Nets.{nets_in}
use Rattle.source.specs.Meaning.{priced}
use Rattle.walk.specs.Asked.{order_of, rule_numbered}
use Rattle.planner.specs.Terms.{terms_of}
use Rattle.plan.proofs.Answered.{priced_answer}
use Rattle.plan.proofs.plans.price.Goals as goal

pub returns : goal.returns
returns g c =
    let P = priced (g.S.Source.means c.args.source.now) (g.S.PricedSource.price c.args.source.now) in
    let f = c.args.forecast.now in
    priced_answer P (net_of c.in_ok-rule.rule.now) f (terms_of c.tariff_of.result f) (c.tariff_of.ensures f) (rule_numbered (nets_in c.args.book.now) c.args.rule)
    (rw c.in_ok-rule.ensures.ok_part at c.rule_at.ensures) (order_of c.args.order) c.price_by.result c.ok_or-2.result c.price_by.ensures c.ok_or-2.ensures.value
