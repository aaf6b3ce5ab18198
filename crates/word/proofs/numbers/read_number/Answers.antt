use Rattle.std.proofs.Common.{ap, ◌∙◌, rules}
use Rattle.word.specs.Numbers.{highest, kept, lowest, written}
use Rattle.word.proofs.Figures.{kept_by, kept-near, widest}
use Rattle.word.proofs.numbers.read_number.Goals as goal

pub returns : goal.returns
returns c =
    let low = lowest c.args.limits in
    let high = highest c.args.limits in
    let w = widest c.args.limits in
    kept_by c.value.result c.filter.result low high _ (λ v t p. search rules) c.filter.ensures ∙ ap (kept low high) c.value.ensures ∙ kept-near low high (written c.args.word.now) w.0 w.1
