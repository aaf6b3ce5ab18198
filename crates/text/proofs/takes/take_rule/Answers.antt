use Rattle.std.proofs.Common.{◌≡◌, ◌+◌, true, false, ◌++◌, ltb, leb, cond, [], ◌∷◌, length, Ok, sym, refl, ap, ◌∙◌, subst, arith, rules}
use Rattle.std.proofs.lemmas.Result.{err_from_is_err_and}
use Rattle.few.specs.Few.{entries}
use Rattle.refusal.specs.Checks.{refused_by}
use Rattle.book.specs.Adding.{motifs_in, rule_add_fault, rules_in}
use Rattle.book.specs.Entries.{motif_names, rule_names}
use Rattle.entry.specs.Named.{taken}
use Rattle.std.specs.List.{list_all}
use Rattle.entry.specs.Named.{letters_of}
use Rattle.text.specs.Held.{motifs_held, steps_held, steps_or}
use Rattle.text.specs.Nets.{net_in, steps_in}
use Rattle.text.specs.Pages.{page_of}
use Rattle.text.specs.Taking.{with_rule_taken, with_rule}
use Rattle.text.specs.declared.faults.TextFault.TheVariants.{NameTaken}
use Rattle.text.proofs.Adds.{fault_by, kept, rule_added, rule-fault, rule-left, rule_refused, rule_taken, settled, unchanged, unknown_at, when_err}
use Rattle.text.proofs.FirstName.{some-steps}
use Rattle.text.proofs.Walks.{links-length}
use Rattle.text.proofs.takes.take_rule.Goals as goal

pub returns-then-is_taken : goal.returns-then-is_taken
returns-then-is_taken c =
    let h = c.args.chapter.now in
    let n = c.args.name.now in
    let w = c.args.net.now in
    let t : taken n (rule_names (rules_in h.book)) ≡ true = sym (c.if-is_taken.ensures ∙ ap (λ rs. taken n (rule_names rs)) c.rules.ensures.value) in
    let k = kept (page_of h) (page_of h) (with_rule_taken (page_of h) n w) NameTaken (rule_taken h n w t) refl in
    record { refused = k.refused; page = k.page }

pub make_rule-requires : goal.make_rule-requires
make_rule-requires c =
    let s = c.in_ok-steps.steps in
    let steps : Ok (steps_held s) ≡ steps_in (motif_names c.motifs.result.now) c.args.net.now = search rules in
    let some = some-steps (motif_names c.motifs.result.now) c.args.net.now (steps_held s) c.requires.shaped steps in
    omega (arith, some, links-length (motifs_held s) (entries s.ranges))

pub returns-in_err-steps : goal.returns-in_err-steps
returns-in_err-steps c =
    let h = c.args.chapter.now in
    let n = c.args.name.now in
    let w = c.args.net.now in
    let f = c.in_err-steps.field-0.0 in
    let free : taken n (rule_names (rules_in h.book)) ≡ false = sym (c.if-is_taken.ensures ∙ ap (λ rs. taken n (rule_names rs)) c.rules.ensures.value) in
    let read : steps_or c.read_steps.result ≡ steps_in (motif_names (motifs_in h.book)) w = c.read_steps.ensures.value ∙ ap (λ x. steps_in (motif_names x) w) c.motifs.ensures.value in
    let told : c.map_err.result ≡ unknown_at (3 + length n) c.read_steps.result = search rules in
    let k = kept (page_of h) (page_of h) (with_rule_taken (page_of h) n w) f (rule_refused h n w c.read_steps.result f free read (sym told ∙ c.in_err-steps.was)) refl in
    let q = err_from_is_err_and c.from_residual.result c.from_residual.ensures.1 in
    rw (q.1, q.2) (record { refused = k.refused; page = k.page })

pub returns : goal.returns
returns c =
    let h = c.args.chapter.now in
    let n = c.args.name.now in
    let w = c.args.net.now in
    let free : taken n (rule_names (rules_in h.book)) ≡ false = sym (c.if-is_taken.ensures ∙ ap (λ rs. taken n (rule_names rs)) c.rules.ensures.value) in
    let ms = c.motifs.ensures.value in
    let d = c.add_rule.new.self in
    let s = c.in_ok-steps.steps in
    let r = c.make_rule.result in
    let ls = steps_held s in
    let count = length (motifs_in h.book) in
    let read : Ok ls ≡ steps_in (motif_names c.motifs.result.now) w = search rules in
    let known : list_all (λ k. ltb k (length c.motifs.result.now)) (motifs_held s) ≡ true = search rules in
    let steps : Ok ls ≡ steps_in (motif_names (motifs_in h.book)) w = read ∙ ap (λ x. steps_in (motif_names x) w) ms in
    let name = ap letters_of c.make_rule.ensures.name ∙ c.in-Ok.ensures.value in
    let net = c.make_rule.ensures.net in
    let all : list_all (λ k. ltb k count) (motifs_held s) ≡ true = subst (λ x. list_all (λ k. ltb k (length x)) (motifs_held s) ≡ true) ms known in
    let fine = ap (list_all (λ k. ltb k count)) c.make_rule.ensures.motifs ∙ all in
    let q = with_rule (page_of h) (record { name = n; net = net_in ls }) in
    let u = leb 8 (length (rules_in h.book)) in
    let x = c.add_rule.ensures in
    let told : refused_by c.map_err-2.result ≡ fault_by c.add_rule.result = search rules in
    let k = settled (page_of h) q (page_of d) (with_rule_taken (page_of h) n w) u (rule_add_fault h.book r) c.add_rule.result (rule-left h n w ls free steps) (rule-fault h r n ls name net free fine) x.refused
    (λ o. rule_added h r n ls name net d (x.rules ∙ ap (λ t. cond t (rules_in h.book ++ r ∷ []) (rules_in h.book)) o) x.motifs x.rest)
    (λ o. unchanged h d (when_err c.add_rule.result x.same o) x.rest) in
    record { refused = told ∙ k.refused; page = k.page }
