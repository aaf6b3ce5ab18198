use Rattle.std.proofs.Common.{refl, rules}
use Rattle.lines.specs.Fields.{field_text}
use Rattle.lines.proofs.Passes.{all_short}
use Rattle.lines.proofs.put.put_fields.Goals as goal

pub returns-in_err-put_field : goal.returns-in_err-put_field
returns-in_err-put_field g c =
    let left = g.met.S.Sink.rest _ _ _ c.loop-field.invariant in
    let short = all_short field_text _ _ _ _ _ _ c.loop-field-test.true refl left c.in_err-put_field.ensures.1 in
    let kind = c.in_err-put_field.ensures.0 in
    search rules
