use Rattle.std.proofs.Common.{◌≡◌, ◌+◌, ◌<◌, ◌++◌, ltb, cond, length, refl, ap, ◌∙◌, arith, rules}
use Rattle.std.proofs.lemmas.List.{length-map}
use Rattle.parts.specs.Parts.{parts}
use Rattle.parts.proofs.Tallies.{length-parts}
use Rattle.word.specs.Numbers.{code_of}
use Rattle.refusal.specs.Checks.{refused_by}
use Rattle.book.specs.Adding.{boxes_fault, row_of}
use Rattle.text.specs.Pages.{page_of}
use Rattle.text.specs.Taking.{codes_in, with_boxes_taken, with_boxes}
use Rattle.text.proofs.Adds.{boxes_added, boxes-fault, fault_by, settled, unchanged, when_err}
use Rattle.text.proofs.takes.take_boxes.Goals as goal

pub returns : goal.returns
returns c =
    let h = c.args.chapter.now in
    let d = c.add_boxes.new.self in
    let w = c.args.field.now in
    let cs = codes_in w in
    let r = c.add_boxes.result in
    let x = c.add_boxes.ensures in
    let is : c.as_slice.result.now ≡ cs = c.as_slice.ensures.value ∙ c.read_codes-codes.ensures in
    let some : 0 < length cs = omega (arith, length-map (parts 32 w) code_of, length-parts 32 w) in
    let told : refused_by c.map_err.result ≡ fault_by r = search rules in
    let k = settled (page_of h) (with_boxes (page_of h) cs) (page_of d) (with_boxes_taken (page_of h) w) (ltb 20000 (length (row_of h) + length cs)) (boxes_fault h cs) r refl (boxes-fault h cs some) (x.refused ∙ ap (boxes_fault h) is)
    (λ o. boxes_added h d cs (x.row ∙ ap (λ t. cond t (row_of h ++ c.as_slice.result.now) (row_of h)) o ∙ ap (λ y. row_of h ++ y) is) x.rest)
    (λ o. unchanged h d x.rest.0 (when_err r x.same o, x.rest.1)) in
    record { refused = told ∙ k.refused; page = k.page }
