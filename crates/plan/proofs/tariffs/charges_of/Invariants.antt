use Rattle.std.proofs.Common.{◌≡◌, map, take}
use Rattle.few.specs.Few.{entries}
use Rattle.entry.specs.Rules.{motifs_of}
use Rattle.plan.proofs.tariffs.charges_of.Given as goal

abbrev pub invariant-loop-motif : goal.invariant-loop-motif
invariant-loop-motif g l =
    (map (λ c. c.look) (entries l.charges) ≡ map (λ m. (g.S.PricedSource.price l.source m).look) (take l.motif-index (motifs_of l.rule)))
    × (map (λ c. c.opening) (entries l.charges) ≡ map (λ m. (g.S.PricedSource.price l.source m).opening) (take l.motif-index (motifs_of l.rule)))
