use Rattle.std.proofs.Common.{[], ◌∷◌}
use Rattle.lines.proofs.Passes.{puts-puts}
use Rattle.lines.proofs.put.put_text.Goals as goal

pub returns : goal.returns
returns g c = puts-puts _ _ g.met.S.Sink.rest g.met.S.Sink.both _ _ _ (44 ∷ []) _ _ c.in_ok-put.ensures c.put-2.ensures
