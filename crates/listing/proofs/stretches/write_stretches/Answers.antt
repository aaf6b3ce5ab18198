use Rattle.std.proofs.Common.{◌≤◌, arith}
use Rattle.listing.proofs.stretches.write_stretches.Goals as goal

-- an end lies within the source, which has at most 20,000 boxes
pub overflow_add-least : goal.overflow_add-least
overflow_add-least g c =
    let law = g.S.Source.lawful c.args.source.now in
    let end : c.in-Some.end ≤ 20000 = omega (arith, law.inside _ _ _ c.in-Some.ensures.1, law.short) in
    omega arith

pub loop-end-smaller : goal.loop-end-smaller
loop-end-smaller g c =
    let law = g.S.Source.lawful c.args.source.now in
    omega (arith, law.inside _ _ _ c.in-Some.ensures.1, law.short, c.in-Some.ensures.0)
