use Rattle.std.proofs.Common.{◌≡◌, map, drop}
use Rattle.std.specs.List.{position_from}
use Rattle.std.specs.Str.{bytes_eq}
use Rattle.entry.specs.Named.{number_in}
use Rattle.entry.proofs.named.number_named.Given as goal

abbrev pub invariant-loop-number : goal.invariant-loop-number
invariant-loop-number g l =
    let names = map g.T.Named.called l.named in
    position_from (bytes_eq l.letters) l.number (drop l.number names) ≡ number_in l.letters names
