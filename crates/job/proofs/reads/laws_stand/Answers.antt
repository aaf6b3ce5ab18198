use Rattle.job.proofs.Turns.{in_turn, stops}
use Rattle.job.proofs.reads.laws_stand.Goals as goal

pub returns : goal.returns
returns c = record { stops = stops; in_turn = in_turn }
