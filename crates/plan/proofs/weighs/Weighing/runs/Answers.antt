use Rattle.std.proofs.Common.{◌≡◌, ◌+◌, ◌≤◌, refl, arith}
use Rattle.entry.specs.Rules.{net_of}
use Rattle.rules.specs.Nets.{motifs}
use Rattle.rules.proofs.Numbers.{few_motifs, length_of}
use Rattle.plan.specs.Weighed.{weighed, weight_in}
use Rattle.plan.proofs.Weighing.{large}
use Rattle.plan.proofs.Tables.{more, next}
use Rattle.plan.proofs.weighs.Weighing.runs.Goals as goal

pub returns-then-number-gt1000000000 : goal.returns-then-number-gt1000000000
returns-then-number-gt1000000000 c =
    let s = c.args.self.now in
    let few : c.loop-last.last ≤ 12 = omega (arith, length_of s.rule.now c.motifs-motifs.result.now c.motifs-motifs.ensures, few_motifs s.rule.now) in
    (refl, large (weighed (weight_in s.book.now) s.boxes (net_of s.rule.now)) c.loop-first.first c.loop-last.last c.loop-first.auto.first c.loop-last.auto.last few (omega arith))

pub loop-last-preserved : goal.loop-last-preserved
loop-last-preserved c =
    let s = c.args.self.now in
    let few : c.loop-last.last ≤ 12 = omega (arith, length_of s.rule.now c.motifs-motifs.result.now c.motifs-motifs.ensures, few_motifs s.rule.now) in
    more (weight_in s.book.now) s.boxes (net_of s.rule.now) c.loop-last.runs c.put.new.self c.loop-first.first c.loop-last.last c.number-number.result c.put.ensures c.number-number.ensures
    c.loop-first.auto.first c.loop-last.auto.last few c.if-number-gt1000000000.false c.loop-last.invariant

pub loop-first-preserved : goal.loop-first-preserved
loop-first-preserved c =
    let s = c.args.self.now in
    let end : c.loop-last.last ≡ motifs (net_of s.rule.now) + 1 = omega (arith, c.loop-last-test.false, c.loop-last.auto.last-end, length_of s.rule.now c.motifs-motifs.result.now c.motifs-motifs.ensures) in
    next (weight_in s.book.now) s.boxes (net_of s.rule.now) c.loop-last.runs c.loop-first.first c.loop-last.last end c.loop-last.invariant
