use Rattle.std.proofs.Common.{◌≡◌, ◌==◌, ◌&&◌, rules, Some, None, subst, sym}
use Rattle.std.specs.Bool.{then_some}
use Rattle.std.specs.List.{list_any}
use Rattle.std.specs.List.Sorted.{IsSortedByKey}
use Rattle.std.proofs.lemmas.List.Sorted.{answers_always}
use Rattle.mark.specs.Keys.{First, is_key, rank_key, start_key}
use Rattle.mark.specs.Listed.{listed}
use Rattle.mark.specs.Marks.{any_mark}
use Rattle.mark.proofs.Copies.{any_start}
use Rattle.mark.proofs.Judgement.{passed_sorted}
use Rattle.mark.proofs.Search.{first_left, least_alike, none_left}
use Rattle.mark.proofs.tested.MarkTest.least_end.Goals as goal

pub returns-in_err-mark : goal.returns-in_err-mark
returns-in_err-mark c =
    let xs = listed c.args.self.now.list in
    let t = c.args.asked in
    let first = subst (λ ys. First start_key ys t None) c.as_slice.ensures.value (c.in_err-mark.ensures start_key (answers_always _ _ _ (λ f a r g called. search rules)) (subst (IsSortedByKey start_key rank_key) (sym c.as_slice.ensures.value) (passed_sorted c.args.self.now.length xs c.args.self.now.passed))) in
    rw c.from_residual.ensures (least_alike (λ b. list_any (λ m. is_key (start_key m) t.motif t.known b) xs) (λ b. any_mark xs t.motif t.known b) t.wanted None (any_start xs t.motif t.known) (none_left start_key xs t first))

pub returns : goal.returns
returns c =
    let xs = listed c.args.self.now.list in
    let t = c.args.asked in
    let x = c.in_ok-mark.mark.now in
    let first = subst (λ ys. First start_key ys t (Some x)) c.as_slice.ensures.value (c.in_ok-mark.ensures start_key (answers_always _ _ _ (λ f a r g called. search rules)) (subst (IsSortedByKey start_key rank_key) (sym c.as_slice.ensures.value) (passed_sorted c.args.self.now.length xs c.args.self.now.passed))) in
    let same : c.if-mark-asked.then_some ≡ (x.motif == t.motif && x.start == t.known) = search rules in
    rw (c.then_some.ensures, same) (least_alike (λ b. list_any (λ m. is_key (start_key m) t.motif t.known b) xs) (λ b. any_mark xs t.motif t.known b) t.wanted (then_some (x.motif == t.motif && x.start == t.known) x.end) (any_start xs t.motif t.known) (first_left start_key xs t x first))
