use Rattle.std.proofs.Common.{sym, subst}
use Rattle.std.proofs.lemmas.List.Sorted.{searchable_from_sorted}
use Rattle.mark.specs.Keys.{First}
use Rattle.mark.proofs.Search.{copied_is, found, key_order, parted}
use Rattle.mark.proofs.key.first_from.Goals as goal

pub returns-in-Ok : goal.returns-in-Ok
returns-in-Ok g c =
    let xs = c.args.items.now in
    let i = c.in-Ok.place in
    λ key by sorted.
    subst (First key xs c.args.asked) (sym (copied_is c.get.result xs i c.get.ensures.lookup))
    (found key xs c.args.asked i c.in-Ok.ensures.bound (c.in-Ok.ensures.position key by))

pub returns-in-Err : goal.returns-in-Err
returns-in-Err g c =
    let xs = c.args.items.now in
    let i = c.in-Err.place in
    λ key by sorted.
    subst (First key xs c.args.asked) (sym (copied_is c.get-in-Err.result xs i c.get-in-Err.ensures.lookup))
    (parted key xs c.args.asked i sorted (c.in-Err.ensures.position key by (searchable_from_sorted key_order key xs c.args.asked sorted)))
