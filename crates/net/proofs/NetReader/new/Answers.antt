use Rattle.std.proofs.Common.{length}
use Rattle.parts.specs.Readers.{parts_left}
use Rattle.net.proofs.Places.{told_within}
use Rattle.net.proofs.NetReader.new.Goals as goal

pub returns-clause-within : goal.returns-clause-within
returns-clause-within c = told_within (length c.args.field.now) (parts_left c.new.result) c.new.ensures.within
