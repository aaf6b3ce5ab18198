use Rattle.entry.specs.Rules.{net_of}
use Rattle.rules.specs.Nets.{nets_in}
use Rattle.source.specs.Meaning.{priced}
use Rattle.walk.specs.Asked.{rule_numbered}
use Rattle.planner.specs.Terms.{terms_of}
use Rattle.plan.proofs.Answered.{planned_alone, planned_answer}
use Rattle.plan.proofs.plans.plan.Goals as goal

pub returns : goal.returns
returns g c =
    let P = priced (g.S.Source.means c.args.source.now) (g.S.PricedSource.price c.args.source.now) in
    let f = c.args.forecast.now in
    let r = net_of c.in_ok-rule.rule.now in
    let t = terms_of c.tariff_of.result f in
    let asked = rule_numbered (nets_in c.args.book.now) c.args.rule in
    let is = rw c.in_ok-rule.ensures.ok_part at c.rule_at.ensures in
    record {
      value = planned_answer P r f t (c.tariff_of.ensures f) asked is c.cheapest.result c.cheapest.ensures;
      only = planned_alone P r f t (c.tariff_of.ensures f) asked is c.cheapest.result c.cheapest.ensures;
    }
