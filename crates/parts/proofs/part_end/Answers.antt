use Rattle.parts.proofs.Cuts.{part_behind}
use Rattle.parts.proofs.part_end.Goals as goal

-- src/lib.rt:26:1
pub returns-clause-inside : goal.returns-clause-inside
returns-clause-inside c = λ h. part_behind c.args.byte c.args.text.now c.args.from c.first_len.result h c.first_len.ensures
