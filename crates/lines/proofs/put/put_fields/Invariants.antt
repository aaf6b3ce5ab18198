use Rattle.std.proofs.Common.{take}
use Rattle.std.specs.List.{flat_map}
use Rattle.lines.specs.Fields.{field_text}
use Rattle.lines.proofs.put.put_fields.Given as goal

abbrev pub invariant-loop-field : goal.invariant-loop-field
invariant-loop-field g l = g.S.Sink.took l.initial.sink (flat_map field_text (take l.field-index l.fields)) l.sink
