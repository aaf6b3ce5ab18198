use Rattle.std.proofs.Common.{◌≡◌, ◌+◌, ◌-◌, ◌≤◌, length}
use Rattle.few.specs.Few.{entries}
use Rattle.planner.specs.Terms.{terms}
use Rattle.planner.specs.Best.{Onward}
use Rattle.planner.proofs.plan.Costs.best_letters.Given as goal

abbrev pub invariant-loop-next : goal.invariant-loop-next
invariant-loop-next l =
    (l.run.last ≤ (terms l.self.pricing).motifs)
    × (length (entries l.letters) + l.run.first ≡ l.run.last)
    × Onward (terms l.self.pricing) l.seed (entries l.letters) l.run.first l.run.last

abbrev pub decreases-loop-next : goal.decreases-loop-next
decreases-loop-next l = l.run.first + ((terms l.self.pricing).motifs - l.run.last)
