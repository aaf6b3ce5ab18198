use Rattle.std.proofs.Common.{◌≡◌, ◌++◌, true, false, leb, cond, [], ◌∷◌, length, sym, refl, ap, ◌∙◌, rules}
use Rattle.refusal.specs.Checks.{refused_by}
use Rattle.book.specs.Adding.{motif_fault, motifs_in}
use Rattle.book.specs.Entries.{motif_names}
use Rattle.entry.specs.Named.{taken}
use Rattle.entry.specs.declared.motif.Motif.{Motif}
use Rattle.body.specs.Bodies.{body_of}
use Rattle.text.specs.Pages.{Page, page_of}
use Rattle.text.specs.Taking.{body_in, with_motif_taken, with_motif}
use Rattle.text.specs.declared.faults.TextFault.TheVariants.{NameTaken}
use Rattle.text.proofs.Adds.{fault_by, kept, motif_added, motif-fault, motif-left, motif_taken, settled, unchanged, when_err}
use Rattle.text.proofs.takes.take_motif.Goals as goal

pub returns-then-is_taken : goal.returns-then-is_taken
returns-then-is_taken c =
    let h = c.args.chapter.now in
    let n = c.args.name.now in
    let b = c.args.body.now in
    let t : taken n (motif_names (motifs_in h.book)) ≡ true = sym (c.if-is_taken.ensures ∙ ap (λ ms. taken n (motif_names ms)) c.motifs.ensures.value) in
    let k = kept (page_of h) (page_of h) (with_motif_taken (page_of h) n c.args.weight b) NameTaken (motif_taken h n c.args.weight b t) refl in
    record { refused = k.refused; page = k.page }

pub returns : goal.returns
returns c =
    let h = c.args.chapter.now in
    let d = c.add_motif.new.self in
    let n = c.args.name.now in
    let v = c.args.weight in
    let b = c.args.body.now in
    let m : Motif = record { name = c.in-Ok.name; weight = v; body = c.in-Ok-read_body.body } in
    let r = c.add_motif.result in
    let x = c.add_motif.ensures in
    let t : taken n (motif_names (motifs_in h.book)) ≡ false = sym (c.if-is_taken.ensures ∙ ap (λ ms. taken n (motif_names ms)) c.motifs.ensures.value) in
    let name = c.in-Ok.ensures.value in
    let body = ap body_in c.in-Ok-read_body.ensures.value in
    let q : Page = with_motif (page_of h) (record { name = n; weight = v; body = body_in (body_of b) }) in
    let told : refused_by c.map_err.result ≡ fault_by r = search rules in
    let k = settled (page_of h) q (page_of d) (with_motif_taken (page_of h) n v b) (leb 16 (length (motifs_in h.book))) (motif_fault h.book m) r (motif-left h m n v b name refl body t) (motif-fault h m n v b name refl body t) x.refused
    (λ o. motif_added h m n v b name refl body d (x.motifs ∙ ap (λ t. cond t (motifs_in h.book ++ m ∷ []) (motifs_in h.book)) o) x.rules x.rest)
    (λ o. unchanged h d (when_err r x.same o) x.rest) in
    record { refused = told ∙ k.refused; page = k.page }
