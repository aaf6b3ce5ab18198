use Rattle.std.proofs.Common.{◌≡◌, get_or, ap, ◌∙◌, subst, rules}
use Rattle.source.specs.Meaning.{priced}
use Rattle.sheet_model.specs.Sheet.{answer}
use Rattle.sheet.specs.States.{sheet_of}
use Rattle.perform.specs.declared.values.Turn.{Turn}
use Rattle.perform.specs.Turns.{call_of, reply_to}
use Rattle.perform.proofs.Performed.{performed_more, performed_whole}
use Rattle.perform.proofs.performs.perform.Goals as goal

pub loop-turn-preserved : goal.loop-turn-preserved
loop-turn-preserved g c =
    let x = c.args.sheet.now in
    let P = priced (g.S.Source.means x.source) (g.S.PricedSource.price x.source) in
    let w = c.loop-turn.sheet.work in
    let v = c.make.new.sheet.work in
    let news = c.loop-turn.turns in
    let i = c.loop-turn.turn-index in
    let t : Turn = get_or news i c.turn-item.result in
    let is : t ≡ get_or news i t = ap (λ (z : Turn). get_or news i z) c.turn-item.is in
    let r = reply_to c.make.new.self c.make.result in
    let told = subst (λ s. let Q = priced (g.S.Source.means s) (g.S.PricedSource.price s) in answer Q (sheet_of Q w) (call_of t.call) ≡ (sheet_of Q v, r)) c.loop-turn.invariant.0 c.make.ensures.told in (
      c.make.ensures.source ∙ c.loop-turn.invariant.0,
      performed_more P (sheet_of P x.work) (sheet_of P w) (sheet_of P v) c.args.turns.now news i t _ r c.loop-turn.invariant.1 (search rules) is told (search rules) c.make.ensures.handed,
    )

pub returns-clause-whole : goal.returns-clause-whole
returns-clause-whole g c =
    let x = c.args.sheet.now in
    let P = priced (g.S.Source.means x.source) (g.S.PricedSource.price x.source) in
    performed_whole P (sheet_of P x.work) (sheet_of P c.loop-turn.sheet.work) c.args.turns.now c.loop-turn.turns c.loop-turn.turn-index (g.S.Source.lawful x.source) c.loop-turn.invariant.1 (search rules)
