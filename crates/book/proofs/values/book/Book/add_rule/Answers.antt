use Rattle.std.proofs.Common.{◌≡◌, true, false, ltb, vec_items, vec_len, sym, ap, ◌∙◌, arith}
use Rattle.std.proofs.lemmas.List.{map_push}
use Rattle.book.specs.Entries.{all_known, distinct, known, rule_names}
use Rattle.entry.specs.Named.{taken}
use Rattle.std.specs.List.{list_all}
use Rattle.entry.specs.Named.{letters_of}
use Rattle.entry.specs.Rules.{motifs_of}
use Rattle.book.proofs.Entries.{distinct_push, every-push}
use Rattle.book.proofs.values.book.Book.add_rule.Goals as goal

pub invariant_of-self : goal.invariant_of-self
invariant_of-self c =
    let s = c.args.self.now in
    let r = c.args.rule in
    let old = vec_items s.rules in
    let count = vec_len s.motifs in
    let free : taken (letters_of r.name) (rule_names old) ≡ false =
    sym (c.if-is_taken.ensures ∙ ap (λ n. taken n (rule_names c.as_slice.result.now)) c.letters.ensures ∙ ap (λ xs. taken (letters_of r.name) (rule_names xs)) c.as_slice.ensures.value) in
    let all : known count r ≡ true =
    sym (c.if-not-all_below.ensures ∙ ap (list_all (λ k. ltb k c.len.result)) c.motifs.ensures ∙ ap (λ n. list_all (λ k. ltb k n) (motifs_of r)) c.len.ensures) in
    let names =
    ap (λ xs. distinct (rule_names xs)) c.push_reserved.ensures.items ∙ ap distinct (map_push (λ x. letters_of x.name) old r)
    ∙ distinct_push (rule_names old) (letters_of r.name) s.rulenames free in
    let more = ap (all_known count) c.push_reserved.ensures.items ∙ every-push (known count) old r s.known all in
    record { sixteen = s.sixteen; eight = omega arith; motifroom = s.motifroom; ruleroom = omega arith; motifnames = s.motifnames; rulenames = names; known = more }
