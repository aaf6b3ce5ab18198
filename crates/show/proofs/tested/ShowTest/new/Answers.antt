use Rattle.std.proofs.Common.{◌≡◌, ◌*◌, length, take, sym, ap, ◌∙◌, arith}
use Rattle.std.proofs.lemmas.List.{length-take-le}
use Rattle.std.proofs.lemmas.Bool.Decides.{nat_tests}
use Rattle.show.specs.Faults.{pass_all}
use Rattle.show.specs.Numbers.{numbers}
use Rattle.show.specs.Stretches.{boxes, reads}
use Rattle.show.proofs.Numbers.{numbers-take}
use Rattle.show.proofs.Passing.{boxes-front, pass_all-front, passed-small, reads-front}
use Rattle.show.proofs.tested.ShowTest.new.Goals as goal
use Rattle.show.proofs.tested.ShowTest.new.Goals.{After-all_pass}

-- the stretches pass where those of the strip do
same : (c : After-all_pass) → c.all_pass.result ≡ pass_all c.args.strip.now (length c.args.ink.now) c.args.m
same c =
    let strip = c.args.strip.now in
    let n = length c.args.ink.now in
    let m = c.args.m in
    let first = c.first_stretches-stretches in
    c.all_pass.ensures
    ∙ ap (pass_all (numbers (take m first.result)) n) (length-take-le m first.result (omega (arith, first.ensures.len)))
    ∙ ap (λ s. pass_all s n m) (numbers-take m first.result)
    ∙ pass_all-front (numbers first.result) (2 * m) n m (omega arith)
    ∙ ap (λ s. pass_all s n m) first.ensures.value
    ∙ pass_all-front strip 24 n m (omega arith)

pub invariant_of-result-clause-small : goal.invariant_of-result-clause-small
invariant_of-result-clause-small c =
    let strip = c.args.strip.now in
    let m = c.args.m in
    let s = same (goal.at.invariant_of-result-clause-small c).After-all_pass in
    omega (arith, ap (λ s. boxes s m) c.first_stretches-stretches.ensures.value, boxes-front strip 24 m (omega arith), passed-small strip (length c.args.ink.now) m (sym s ∙ c.if-not-all_pass.false))

pub returns-then-not-all_pass-clause-refused : goal.returns-then-not-all_pass-clause-refused
returns-then-not-all_pass-clause-refused c = let s = same (goal.at.returns-then-not-all_pass-clause-refused c).After-all_pass in grind (arith, nat_tests)

pub returns-clause-refused : goal.returns-clause-refused
returns-clause-refused c = let s = same (goal.at.returns-clause-refused c).After-all_pass in grind (arith, nat_tests)

pub returns-clause-meaning : goal.returns-clause-meaning
returns-clause-meaning c = λ i b.
    ap (λ s. reads s c.args.m i b) c.first_stretches-stretches.ensures.value
    ∙ reads-front c.args.strip.now 24 c.args.m (omega arith) i b
