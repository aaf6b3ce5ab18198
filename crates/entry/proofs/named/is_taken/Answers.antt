use Rattle.std.proofs.Common.{map, is_some, ap, ◌∙◌}
use Rattle.entry.proofs.Lookups.{numbered}
use Rattle.entry.proofs.named.is_taken.Goals as goal

pub returns : goal.returns
returns g c = c.is_some.ensures ∙ ap is_some c.number_named.ensures.value ∙ numbered 0 c.args.letters.now (map g.T.Named.called c.args.named.now)
