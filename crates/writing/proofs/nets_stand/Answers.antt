use Rattle.writing.proofs.NetLetters.{net_named}
use Rattle.writing.proofs.NetShapes.{net_shaped}
use Rattle.writing.proofs.Nets.{net_sound}
use Rattle.writing.proofs.nets_stand.Goals as goal

pub returns : goal.returns
returns c = record { net_sound = net_sound; net_named = net_named; net_shaped = net_shaped }
