use Rattle.few.specs.Few.{entries}
use Rattle.plan.proofs.Agreeing.{tariff_agrees}
use Rattle.plan.proofs.tariffs.tariff_of.Goals as goal

pub returns : goal.returns
returns g c f =
    tariff_agrees (g.S.Source.means c.args.source.now) (g.S.PricedSource.price c.args.source.now) c.args.rule.now (entries c.charges_of.result) (entries c.widths_of.result) f
    c.charges_of.ensures.look c.charges_of.ensures.opening c.widths_of.ensures
