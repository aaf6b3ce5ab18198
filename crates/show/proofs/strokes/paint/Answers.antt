use Rattle.std.proofs.Common.{◌≡◌, ◌+◌, ◌-◌, drop, replicate, refl, arith, rules}
use Rattle.std.proofs.lemmas.List.{length-drop, length-replicate}
use Rattle.show.proofs.Paint.{filled, put_front}
use Rattle.show.proofs.strokes.paint.Goals as goal

pub returns : goal.returns
returns c =
    let f = c.args.boxes.start in
    let w = c.args.boxes.end - f in
    let e : c.len.result ≡ w = c.len.ensures in
    let xs = c.args.ink.now in
    record {
      painted = put_front f w w xs _ (replicate w c.args.number) refl (filled xs _ f w c.args.number (omega arith) (c.fill.ensures.after (λ y e. e))) (omega (arith, length-replicate w c.args.number));
      kept = put_front c.args.at (c.args.at + c.len.result - c.args.at) w c.args.saved.now _ (drop f xs) (omega arith) (search rules) (omega (arith, length-drop f xs));
    }
