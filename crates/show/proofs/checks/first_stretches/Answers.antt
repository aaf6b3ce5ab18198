use Rattle.std.proofs.Common.{◌≡◌, ◌*◌, take, sym, refl, ap, ◌∙◌, arith}
use Rattle.std.proofs.lemmas.List.{length-set, length-take, take_all, take_more_set}
use Rattle.show.specs.Numbers.{numbers}
use Rattle.show.proofs.Numbers.{front_more}
use Rattle.show.proofs.checks.first_stretches.Goals as goal

pub loop-k-preserved : goal.loop-k-preserved
loop-k-preserved c = (
  length-set c.loop-k.stretches c.loop-k.k _ ∙ c.loop-k.invariant.0,
  ap numbers (take_more_set c.loop-k.stretches c.loop-k.k _ (omega (arith, length-take 12 c.as_chunks.result.0.now, c.loop-k.invariant.0)))
      ∙ front_more c.args.strip.now c.as_chunks.result.0.now 12 c.loop-k.k (take c.loop-k.k c.loop-k.stretches) _ c.as_chunks.ensures.front c.as_chunks.ensures.front_len (omega arith) c.loop-k-test.true c.loop-k.invariant.1 refl refl,
)

pub returns-clause-value : goal.returns-clause-value
returns-clause-value c =
    let k : c.loop-k.k ≡ 12 = omega (arith, length-take 12 c.as_chunks.result.0.now, c.as_chunks.ensures.front_len) in
    ap numbers (sym (take_all c.loop-k.k c.loop-k.stretches (omega (arith, c.loop-k.invariant.0)))) ∙ c.loop-k.invariant.1 ∙ ap (λ n. take (2 * n) c.args.strip.now) k
