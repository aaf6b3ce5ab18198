use Rattle.std.proofs.Common.{◌≡◌, ◌<◌, ◌++◌, leb, cond, [], ◌∷◌, length, Some, None, refl, ap, ◌∙◌, subst, rules}
use Rattle.refusal.specs.Checks.{refused_by}
use Rattle.book.specs.Adding.{mark_fault, marks_of, motifs_in}
use Rattle.book.specs.Entries.{motif_names}
use Rattle.entry.specs.Named.{number_in}
use Rattle.text.specs.Pages.{page_of}
use Rattle.text.specs.Taking.{with_mark_taken, with_mark}
use Rattle.text.specs.declared.faults.TextFault.TheVariants.{UnknownMotif}
use Rattle.text.proofs.Adds.{fault_by, kept, mark_added, mark-fault, mark-left, mark_unknown, settled, unchanged, when_err}
use Rattle.text.proofs.takes.take_mark.Goals as goal

pub returns-in_default : goal.returns-in_default
returns-in_default c =
    let h = c.args.chapter.now in
    let n = c.args.name.now in
    let ms = c.motifs.ensures.value in
    let e : None ≡ number_in n (motif_names (motifs_in h.book)) = c.in_default.ensures.value ∙ ap (λ x. number_in n (motif_names x)) ms in
    let k = kept (page_of h) (page_of h) (with_mark_taken (page_of h) n c.args.start c.args.end) (UnknownMotif 2) (mark_unknown h n c.args.start c.args.end e) refl in
    record { refused = k.refused; page = k.page }

pub returns : goal.returns
returns c =
    let h = c.args.chapter.now in
    let d = c.add_mark.new.self in
    let n = c.args.name.now in
    let a = c.args.start in
    let b = c.args.end in
    let i = c.in-Some.motif in
    let r = c.add_mark.result in
    let x = c.add_mark.ensures in
    let ms = c.motifs.ensures.value in
    let e : Some i ≡ number_in n (motif_names (motifs_in h.book)) = c.in-Some.ensures.value ∙ ap (λ x. number_in n (motif_names x)) ms in
    let f = mark-fault h n a b i (subst (λ x. i < length x) ms c.in-Some.ensures.bound) c.requires.0 c.requires.1 in
    let told : refused_by c.map_err.result ≡ fault_by r = search rules in
    let k = settled (page_of h) (with_mark (page_of h) i a b) (page_of d) (with_mark_taken (page_of h) n a b) (leb 4000 (length (marks_of h))) (mark_fault h (record { motif = i; start = a; end = b })) r (mark-left h n a b i e) f x.refused
    (λ o. mark_added h n a b d i (x.marks ∙ ap (λ t. cond t (marks_of h ++ record { motif = i; start = a; end = b } ∷ []) (marks_of h)) o) x.rest)
    (λ o. unchanged h d x.rest.0 (x.rest.1, when_err r x.same o)) in
    record { refused = told ∙ k.refused; page = k.page }
