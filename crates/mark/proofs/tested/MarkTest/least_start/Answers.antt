use Rattle.std.proofs.Common.{◌≡◌, ◌==◌, ◌&&◌, rules, vec_items, Some, None, subst, sym}
use Rattle.std.specs.Bool.{then_some}
use Rattle.std.specs.List.Sorted.{IsSortedByKey}
use Rattle.std.proofs.lemmas.List.Sorted.{answers_always}
use Rattle.mark.specs.Keys.{First, any_key, rank_key}
use Rattle.mark.specs.Listed.{listed}
use Rattle.mark.specs.Marks.{any_mark}
use Rattle.mark.specs.declared.key.Key.{Key}
use Rattle.mark.proofs.Search.{first_left, least_alike, none_left}
use Rattle.mark.proofs.tested.MarkTest.least_start.Goals as goal

pub returns-in_err-key : goal.returns-in_err-key
returns-in_err-key c =
    let xs = vec_items c.args.self.now.list.ends in
    let t = c.args.asked in
    let first = subst (λ ys. First (λ (x : Key). x) ys t None) c.as_slice.ensures.value (c.in_err-key.ensures (λ (x : Key). x) (answers_always _ _ _ (λ f a r g called. search rules)) (subst (IsSortedByKey (λ (x : Key). x) rank_key) (sym c.as_slice.ensures.value) (c.args.self.now.list.sorted))) in
    rw c.from_residual.ensures (least_alike (λ a. any_key xs t.motif t.known a) (λ a. any_mark (listed c.args.self.now.list) t.motif a t.known) t.wanted None (λ a. c.args.self.now.list.ends_say t.motif a t.known) (none_left (λ (x : Key). x) xs t first))

pub returns : goal.returns
returns c =
    let xs = vec_items c.args.self.now.list.ends in
    let t = c.args.asked in
    let x = c.in_ok-key.key.now in
    let first = subst (λ ys. First (λ (x : Key). x) ys t (Some x)) c.as_slice.ensures.value (c.in_ok-key.ensures (λ (x : Key). x) (answers_always _ _ _ (λ f a r g called. search rules)) (subst (IsSortedByKey (λ (x : Key). x) rank_key) (sym c.as_slice.ensures.value) (c.args.self.now.list.sorted))) in
    let same : c.if-key-asked.then_some ≡ (x.motif == t.motif && x.known == t.known) = search rules in
    rw (c.then_some.ensures, same) (least_alike (λ a. any_key xs t.motif t.known a) (λ a. any_mark (listed c.args.self.now.list) t.motif a t.known) t.wanted (then_some (x.motif == t.motif && x.known == t.known) x.wanted) (λ a. c.args.self.now.list.ends_say t.motif a t.known) (first_left (λ (x : Key). x) xs t x first))
