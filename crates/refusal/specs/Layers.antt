-- The layers that refuse, as they are printed.
use Rattle.std.specs.Prelude.{ℕ, List, codes}
use Rattle.refusal.specs.declared.layer.Layer.{Layer}
use Rattle.refusal.specs.declared.layer.Layer.TheVariants.{Word, Line, Text, Marks, Plan, Sheet}

abbrev pub layer_text : Layer → List ℕ
layer_text Word = codes "word"
layer_text Line = codes "line"
layer_text Text = codes "text"
layer_text Marks = codes "marks"
layer_text Plan = codes "plan"
layer_text Sheet = codes "sheet"
