use Rattle.book.specs.Entries.{Unique, rule_names}
use Rattle.book.proofs.Entries.{distinct_unique}
use Rattle.book.proofs.values.book.Book.rules.Goals as goal
use Rattle.std.proofs.Common.{sym, subst}

pub returns : goal.returns
returns c =
    let s = c.args.self.now in
    let v = c.as_slice.ensures.value in
    record { value = v; apart = subst (λ xs. Unique (rule_names xs)) (sym v) (distinct_unique _ s.rulenames) }
