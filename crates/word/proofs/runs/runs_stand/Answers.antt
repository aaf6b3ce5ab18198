use Rattle.word.proofs.LongestRuns.{first_run}
use Rattle.word.proofs.runs.runs_stand.Goals as goal

pub returns : goal.returns
returns c = first_run
