use Rattle.round_trip.proofs.Chapters.{round_trip}
use Rattle.round_trip.proofs.Lengths.{boxes_short, marks_short}
use Rattle.round_trip.proofs.stands.pages_stand.Goals as goal

pub returns : goal.returns
returns c = record { back = round_trip; boxes_short = boxes_short; marks_short = marks_short }
