use Rattle.std.proofs.Common.{◌≡◌, Some, ap, ◌∙◌, arith}
use Rattle.shape.specs.Follow.{misfit}
use Rattle.shape.specs.Grammar.{shape_of}
use Rattle.shape.specs.States.{next}
use Rattle.shape.proofs.Judged.{told}
use Rattle.shape.proofs.Going.{going_all, going_more, going_none, going_stuck}
use Rattle.shape.proofs.shape_fault.Goals as goal

pub loop-i-init : goal.loop-i-init
loop-i-init c = going_none c.args.form c.from-state.result c.args.field.now c.from-state.ensures

pub returns-in-None : goal.returns-in-None
returns-in-None c =
    let f = c.args.field.now in
    let i = c.loop-i.i in
    let value : Some i ≡ misfit (shape_of c.args.form) f = going_stuck (shape_of c.args.form) f i c.loop-i.state c.loop-i-test.true c.loop-i.invariant (c.in-None.ensures ∙ ap (next c.loop-i.state) c.from.ensures) in
    record { value = value; law = told c.args.form f (Some i) value }

pub loop-i-preserved : goal.loop-i-preserved
loop-i-preserved c =
    going_more (shape_of c.args.form) c.args.field.now c.loop-i.i c.loop-i.state c.in-Some.next c.loop-i-test.true c.loop-i.invariant (c.in-Some.ensures ∙ ap (next c.loop-i.state) c.from.ensures)

pub returns : goal.returns
returns c =
    let f = c.args.field.now in
    let value : c.then_some.result ≡ misfit (shape_of c.args.form) f = c.then_some.ensures ∙ going_all (shape_of c.args.form) f c.loop-i.i c.loop-i.state c.is_final.result (omega arith) c.loop-i.invariant c.is_final.ensures in
    record { value = value; law = told c.args.form f c.then_some.result value }
