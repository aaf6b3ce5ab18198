use Rattle.std.proofs.Common.{◌≡◌, map, take}
use Rattle.few.specs.Few.{entries}
use Rattle.entry.specs.Rules.{ranges_of, span_of, width}
use Rattle.plan.proofs.tariffs.widths_of.Given as goal

abbrev pub invariant-loop-range : goal.invariant-loop-range
invariant-loop-range l = map (λ w. w.places) (entries l.widths) ≡ map (λ g. width (span_of g)) (take l.range-index (ranges_of l.rule))
