-- The faults of a line: the refusal, the layer and the place of each.
use Rattle.std.specs.Prelude.{ℕ}
use Rattle.refusal.specs.declared.Refusal.{Refusal}
use Rattle.refusal.specs.declared.Refusal.TheVariants.{UnknownKind as ByKind, WrongCommas as ByCommas, BadShape as ByShape, BackwardRange as ByRange, TooMany as ByMany}
use Rattle.word.specs.Faults.{word_refusal, word_place}
use Rattle.refusal.specs.declared.layer.Layer.{Layer}
use Rattle.refusal.specs.declared.layer.Layer.TheVariants.{Word as InWord, Line as InLine}
use Rattle.line.specs.declared.faults.LineFault.{LineFault}
use Rattle.line.specs.declared.faults.LineFault.TheVariants.{UnknownKind, WrongCommas, Word, BadShape, BackwardRange, TooMany}

abbrev pub line_refusal : LineFault → Refusal
line_refusal UnknownKind = ByKind
line_refusal (WrongCommas p) = ByCommas
line_refusal (Word w) = word_refusal w
line_refusal (BadShape p) = ByShape
line_refusal (BackwardRange p) = ByRange
line_refusal (TooMany p) = ByMany

abbrev pub line_layer : LineFault → Layer
line_layer UnknownKind = InLine
line_layer (WrongCommas p) = InLine
line_layer (Word w) = InWord
line_layer (BadShape p) = InLine
line_layer (BackwardRange p) = InLine
line_layer (TooMany p) = InLine

abbrev pub line_place : LineFault → ℕ
line_place UnknownKind = 0
line_place (WrongCommas p) = p
line_place (Word w) = word_place w
line_place (BadShape p) = p
line_place (BackwardRange p) = p
line_place (TooMany p) = p
