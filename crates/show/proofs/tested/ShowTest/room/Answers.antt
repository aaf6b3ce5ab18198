use Rattle.std.proofs.Common.{take, ◌∙◌, arith, rules, tests}
use Rattle.std.proofs.lemmas.Iterator.{YieldsList-from_map, YieldsList-from_slice}
use Rattle.std.proofs.lemmas.Iterator.Consumers.{fits_by_from_yields_list, sum_by_from_yields_List}
use Rattle.show.specs.Held.{count_of, strip_of}
use Rattle.show.proofs.Undo.{kept-le, kept-take, width}
use Rattle.show.proofs.tested.ShowTest.room.Goals as goal

pub returns : goal.returns
returns c =
    let ss = take c.args.self.now.m c.args.self.now.strip in
    sum_by_from_yields_List (width c.args.ink_len) ss c.map.result c.sum.result c.sum.ensures.ran (YieldsList-from_map _ (width c.args.ink_len) (YieldsList-from_slice ss (cc)) c.map.ensures.closure (λ x r q k. search (rules, tests)))
    ∙ kept-take c.args.self.now.strip c.args.ink_len c.args.self.now.m (omega (arith, c.args.self.now.few, c.args.self.now.all))

pub sum-requires-clause-fits : goal.sum-requires-clause-fits
sum-requires-clause-fits c =
    let ss = take c.args.self.now.m c.args.self.now.strip in
    let n = c.args.ink_len in
    fits_by_from_yields_list (width n) ss c.map.result _ (YieldsList-from_map _ (width n) (YieldsList-from_slice ss (cc)) c.map.ensures.closure (λ x r q k. search (rules, tests))) (omega (arith, kept-take c.args.self.now.strip n c.args.self.now.m (omega (arith, c.args.self.now.few, c.args.self.now.all)), kept-le (strip_of c.args.self.now) n (count_of c.args.self.now), c.args.self.now.small))
