use Rattle.std.proofs.Common.{◌-◌, drop, refl, arith, rules}
use Rattle.std.proofs.lemmas.List.{length-drop}
use Rattle.show.proofs.Paint.{put_front}
use Rattle.show.proofs.strokes.put_back.Goals as goal

pub returns : goal.returns
returns c =
    let w = c.args.boxes.end - c.args.boxes.start in
    put_front c.args.boxes.start w w c.args.ink.now _ (drop c.args.at c.args.saved.now) refl (search rules) (omega (arith, length-drop c.args.at c.args.saved.now))
