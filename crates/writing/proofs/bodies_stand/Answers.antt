use Rattle.writing.proofs.Bodies.{body_shaped, body_sound}
use Rattle.writing.proofs.Items.{body_back}
use Rattle.writing.proofs.bodies_stand.Goals as goal

pub returns : goal.returns
returns c = record { body_sound = body_sound; body_shaped = body_shaped; body_back = body_back }
