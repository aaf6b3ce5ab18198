use Rattle.std.proofs.Common.{◌≡◌, ◌+◌, ◌-◌, ◌*◌, ◌<◌, [], ◌∷◌, ◌++◌, map, length, get_or, take, drop, set, replicate, sym, ap, ◌∙◌, arith}
use Rattle.std.proofs.lemmas.List.{take_more, map_push, length-map, length-take-le}
use Rattle.sheet_model.specs.Strip.{numbers_of}
use Rattle.stack.specs.declared.frames.Ends.{Ends}
use Rattle.stack.specs.Frames.{stretch_of}
use Rattle.strip.proofs.Strips.{put-more}
use Rattle.strip.proofs.put.Goals as goal

pub loop-i-preserved : goal.loop-i-preserved
loop-i-preserved c =
    let run = c.args.stretches.now in
    let behind = drop 24 c.args.strip.now in
    let i = c.loop-i.i in
    let none : Ends = record { start = 0; end = 0 } in
    let x = get_or run i none in
    let within : i < length run = c.loop-i-test.true in
    let more : take (i + 1) run ≡ take i run ++ x ∷ [] = take_more run i none within in
    let long : length (map stretch_of (take i run)) ≡ i = length-map (take i run) stretch_of ∙ length-take-le i run (omega arith) in
    ap (λ l. set (set l (2 * i) x.start) (2 * i + 1) x.end) c.loop-i.invariant
    ∙ put-more (map stretch_of (take i run)) behind (stretch_of x) i long (omega (arith, c.requires.few, within))
    ∙ ap (λ l. numbers_of l ++ (replicate (24 - 2 * (i + 1)) 0 ++ behind)) (sym (ap (map stretch_of) more ∙ map_push stretch_of (take i run) x))
