use Rattle.std.proofs.Common.{refl}
use Rattle.std.specs.Fmt.{digits}
use Rattle.round_trip.proofs.stands.example_stands.Goals as goal

pub returns : goal.returns
unfolding digits
returns c = refl
