use Rattle.std.proofs.Common.{[], ◌∷◌}
use Rattle.lines.proofs.Passes.{puts-puts}
use Rattle.lines.proofs.put.put_line.Goals as goal

pub returns : goal.returns
returns g c =
    puts-puts _ _ g.met.S.Sink.rest g.met.S.Sink.both _ _ _ (c.args.kind ∷ []) _ _ c.in_ok-put.ensures (puts-puts _ _ g.met.S.Sink.rest g.met.S.Sink.both _ _ _ _ _ _ c.in_ok-put_fields.ensures c.put-2.ensures)
