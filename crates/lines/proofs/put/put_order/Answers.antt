use Rattle.std.proofs.Common.{◌∷◌, decimal}
use Rattle.lines.proofs.Passes.{puts-puts}
use Rattle.lines.proofs.put.put_order.Goals as goal

pub returns : goal.returns
returns g c =
    puts-puts _ _ g.met.S.Sink.rest g.met.S.Sink.both _ _ _ (44 ∷ decimal c.args.order.seed) _ _ c.in_ok-put_number.ensures c.put_letters.ensures
