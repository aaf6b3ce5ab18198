use Rattle.std.proofs.Common.{refl}
use Rattle.forecast.proofs.Cells.{all_zero}
use Rattle.forecast.proofs.runs.Runs.zeros.Goals as goal

pub returns : goal.returns
returns c = all_zero _ refl
