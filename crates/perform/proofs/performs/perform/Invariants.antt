use Rattle.std.proofs.Common.{◌≡◌}
use Rattle.source.specs.Meaning.{priced}
use Rattle.sheet.specs.States.{sheet_of}
use Rattle.perform.proofs.Performed.{Performed}
use Rattle.perform.proofs.performs.perform.Given as goal

abbrev pub invariant-loop-turn : goal.invariant-loop-turn
invariant-loop-turn g l =
    let P = priced (g.S.Source.means l.initial.sheet.source) (g.S.PricedSource.price l.initial.sheet.source) in
    (l.sheet.source ≡ l.initial.sheet.source) × Performed P (sheet_of P l.initial.sheet.work) (sheet_of P l.sheet.work) l.initial.turns l.turns l.turn-index
