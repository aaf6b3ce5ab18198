use Rattle.std.proofs.Common.{arith}
use Rattle.layer.specs.Laws.{part-lawful}
use Rattle.layer.proofs.window.WindowSource.next_end.Goals as goal

pub returns-then-start-length : goal.returns-then-start-length
returns-then-start-length g c x least h =
    let w = c.args.self.now in
    let lawful = part-lawful (g.S.Source.means w.source) w.from w.to w.short (g.S.Source.lawful w.source) in
    grind (arith, lawful.ordered c.args.motif c.args.start x h, lawful.inside c.args.motif c.args.start x h)
