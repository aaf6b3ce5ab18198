use Rattle.std.proofs.Common.{◌≡◌, ◌<◌, ◌∷◌, length, get_or, sym, ap, ◌∙◌, rules}
use Rattle.std.proofs.lemmas.Slice.{first_rest}
use Rattle.std.specs.List.{between}
use Rattle.word.specs.Numbers.{plain, written}
use Rattle.word.proofs.Figures.{minus-near, near, negated}
use Rattle.word.proofs.numbers.value.Goals as goal

pub returns-in-45 : goal.returns-in-45
returns-in-45 c =
    let w = c.args.word.now in
    let long : 0 < length w = search rules in
    let first : get_or w 0 0 ≡ 45 = search rules in
    let split : w ≡ 45 ∷ between 1 (length w) w = first_rest w 0 long ∙ ap (λ x. x ∷ between 1 (length w) w) first in
    let mapped : c.map.result ≡ negated c.digits.result = search rules in
    mapped ∙ ap negated c.digits.ensures ∙ minus-near (plain (between 1 (length w) w)) ∙ sym (ap (λ x. near (written x)) split)
