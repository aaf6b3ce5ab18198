use Rattle.std.proofs.Common.{◌<◌, ◌≤◌, true, false, [], map, length, sym, ap, ◌∙◌, arith}
use Rattle.std.proofs.lemmas.List.{get_or-map, length-map}
use Rattle.std.specs.Str.{bytes_eq}
use Rattle.entry.proofs.Lookups.{named_end, named_on}
use Rattle.entry.proofs.named.number_named.Goals as goal

pub returns-then-is_called : goal.returns-then-is_called
returns-then-is_called g c =
    let f = g.T.Named.called in
    let xs = c.args.named.now in
    let k = c.loop-number.number in
    let x = c.index-named-number.result in
    let h : k < length (map f xs) = omega (arith, length-map xs f, c.loop-number-test.true) in
    let at = ap f c.index-named-number.is ∙ sym (get_or-map f xs k x [] c.loop-number-test.true) in
    record {
      value = named_on c.args.letters.now (map f xs) k true h (c.if-is_called.ensures ∙ ap (bytes_eq c.args.letters.now) at) c.loop-number.invariant;
      bound = c.loop-number-test.true;
    }

pub loop-number-preserved : goal.loop-number-preserved
loop-number-preserved g c =
    let f = g.T.Named.called in
    let xs = c.args.named.now in
    let k = c.loop-number.number in
    let x = c.index-named-number.result in
    let h : k < length (map f xs) = omega (arith, length-map xs f, c.loop-number-test.true) in
    let at = ap f c.index-named-number.is ∙ sym (get_or-map f xs k x [] c.loop-number-test.true) in
    named_on c.args.letters.now (map f xs) k false h (c.if-is_called.ensures ∙ ap (bytes_eq c.args.letters.now) at) c.loop-number.invariant

pub returns : goal.returns
returns g c =
    let f = g.T.Named.called in
    let xs = c.args.named.now in
    let h : length (map f xs) ≤ c.loop-number.number = omega (arith, length-map xs f, c.loop-number-test.false) in
    record { value = named_end c.args.letters.now (map f xs) c.loop-number.number h c.loop-number.invariant; bound = tt }
