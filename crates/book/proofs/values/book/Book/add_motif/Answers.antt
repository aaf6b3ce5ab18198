use Rattle.std.proofs.Common.{◌≡◌, ◌≤◌, false, vec_items, vec_len, sym, ap, ◌∙◌, arith}
use Rattle.std.proofs.lemmas.List.{map_push}
use Rattle.book.specs.Entries.{distinct, motif_names}
use Rattle.entry.specs.Named.{taken}
use Rattle.entry.specs.Named.{letters_of}
use Rattle.book.proofs.Entries.{distinct_push, known_more}
use Rattle.book.proofs.values.book.Book.add_motif.Goals as goal

pub invariant_of-self : goal.invariant_of-self
invariant_of-self c =
    let s = c.args.self.now in
    let m = c.args.motif in
    let old = vec_items s.motifs in
    let free : taken (letters_of m.name) (motif_names old) ≡ false =
    sym (c.if-is_taken.ensures ∙ ap (λ n. taken n (motif_names c.as_slice.result.now)) c.letters.ensures ∙ ap (λ xs. taken (letters_of m.name) (motif_names xs)) c.as_slice.ensures.value) in
    let more : vec_len s.motifs ≤ vec_len c.push_reserved.new.self = omega (arith, c.push_reserved.ensures.len) in
    let names =
    ap (λ xs. distinct (motif_names xs)) c.push_reserved.ensures.items ∙ ap distinct (map_push (λ x. letters_of x.name) old m)
    ∙ distinct_push (motif_names old) (letters_of m.name) s.motifnames free in
    record { sixteen = omega arith; eight = s.eight; motifroom = omega arith; ruleroom = s.ruleroom; motifnames = names; rulenames = s.rulenames; known = known_more _ _ more (vec_items s.rules) s.known }
