use Rattle.std.proofs.Common.{◌≡◌, ◌+◌, [], ◌∷◌, ◌++◌, ◌<◌, length, get_or, take, None, vec_items, sym, ap, ◌∙◌, arith, rules}
use Rattle.std.proofs.lemmas.List.{take_more}
use Rattle.stack.specs.Frames.{chain, stretch_of}
use Rattle.strip.specs.Finds.{grown_list, parts_of}
use Rattle.strip.proofs.Strips.{parts-push}
use Rattle.strip.proofs.FindRoom.gather.Goals as goal

pub loop-f-preserved : goal.loop-f-preserved
loop-f-preserved c =
    let fs = vec_items c.args.search.now.frames in
    let i = c.loop-f.f-index in
    let f = c.f-item.result in
    let within : i < length fs = search rules in
    let read : f ≡ get_or fs i f = search rules in
    let more : take (i + 1) fs ≡ take i fs ++ f ∷ [] = take_more fs i f within ∙ ap (λ y. take i fs ++ y ∷ []) (sym read) in
    record {
      items = c.add.ensures.items ∙ ap (λ xs. grown_list f.letter xs (stretch_of f.gone)) c.loop-f.invariant.items ∙ sym (parts-push (take i fs) f) ∙ ap (λ gs. parts_of (chain None gs)) (sym more);
      len = omega (arith, c.add.ensures.len, c.loop-f.invariant.len);
    }
