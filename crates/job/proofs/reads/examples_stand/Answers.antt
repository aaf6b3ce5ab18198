use Rattle.std.proofs.Common.{refl}
use Rattle.job.proofs.reads.examples_stand.Goals as goal

pub returns : goal.returns
returns c = record { ladder_page_read = refl; name_for_number = refl; range_too_low = refl; widest_range = refl }
