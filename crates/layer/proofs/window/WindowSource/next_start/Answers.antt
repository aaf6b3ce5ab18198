use Rattle.std.proofs.Common.{arith}
use Rattle.layer.specs.Laws.{part-lawful}
use Rattle.layer.proofs.window.WindowSource.next_start.Goals as goal

pub returns-then-end-length : goal.returns-then-end-length
returns-then-end-length g c x least h =
    let w = c.args.self.now in
    let lawful = part-lawful (g.S.Source.means w.source) w.from w.to w.short (g.S.Source.lawful w.source) in
    grind (arith, lawful.ordered c.args.motif x c.args.end h, lawful.inside c.args.motif x c.args.end h)
