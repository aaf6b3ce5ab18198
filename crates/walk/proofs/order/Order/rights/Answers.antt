use Rattle.std.proofs.Common.{rules, ◌≡◌, sym, ◌∙◌}
use Rattle.std.specs.List.{count_by}
use Rattle.std.proofs.iter.runs.Made.{chains}
use Rattle.walk.proofs.Letters.{is_right, rights-count}
use Rattle.walk.proofs.order.Order.rights.Goals as goal

pub returns-clause-value : goal.returns-clause-value
returns-clause-value c =
    let letters = c.args.self.letters.now in
    let counted : c.count.result ≡ count_by is_right letters = search (rules, chains) in
    counted ∙ sym (rights-count letters)
