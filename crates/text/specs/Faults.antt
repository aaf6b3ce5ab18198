-- The faults of a text: the refusal, the layer and the place of each.
use Rattle.std.specs.Prelude.{ℕ}
use Rattle.refusal.specs.declared.Refusal.{Refusal}
use Rattle.refusal.specs.declared.Refusal.TheVariants.{TooLong, NameTaken as ByTaken, UnknownMotif as ByUnknown, NoRoom as ByRoom}
use Rattle.line.specs.Faults.{line_layer, line_place, line_refusal}
use Rattle.refusal.specs.declared.layer.Layer.{Layer}
use Rattle.refusal.specs.declared.layer.Layer.TheVariants.{Text as InText}
use Rattle.text.specs.declared.faults.TextFault.{TextFault}
use Rattle.text.specs.declared.faults.TextFault.TheVariants.{JobTooLong, LineTooLong, Line, NameTaken, UnknownMotif, NoRoom}

abbrev pub text_refusal : TextFault → Refusal
text_refusal JobTooLong = TooLong
text_refusal LineTooLong = TooLong
text_refusal (Line e) = line_refusal e
text_refusal NameTaken = ByTaken
text_refusal (UnknownMotif p) = ByUnknown
text_refusal NoRoom = ByRoom

abbrev pub text_layer : TextFault → Layer
text_layer JobTooLong = InText
text_layer LineTooLong = InText
text_layer (Line e) = line_layer e
text_layer NameTaken = InText
text_layer (UnknownMotif p) = InText
text_layer NoRoom = InText

abbrev pub text_place : TextFault → ℕ
text_place JobTooLong = 0
text_place LineTooLong = 200
text_place (Line e) = line_place e
text_place NameTaken = 2
text_place (UnknownMotif p) = p
text_place NoRoom = 0
