use Rattle.std.proofs.Common.{◌-◌}
use Rattle.listing.proofs.stretches.write_stretches.Given as goal

abbrev pub decreases-loop-end : goal.decreases-loop-end
decreases-loop-end g l = 20001 - l.least
