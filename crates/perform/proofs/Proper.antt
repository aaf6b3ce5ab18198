-- Every range that a lay can bring has its low at or below its high, since a range keeps that.
use Rattle.std.proofs.Common.{ℕ, List, [], ◌∷◌, map}
use Rattle.entry.specs.Rules.{links_of, net_from, net_of, motifs_of, ranges_of}
use Rattle.entry.specs.declared.range.Range.{Range}
use Rattle.entry.specs.declared.rule.Rule.{Rule}
use Rattle.book.specs.Adding.{rules_in}
use Rattle.walk.specs.Places.{Proper}
use Rattle.sheet_model.specs.History.{ProperRules, ProperCall, ProperCalls}
use Rattle.perform.specs.declared.values.Call.{Call}
use Rattle.perform.specs.declared.values.Call.TheVariants.{Lay, Look, Take, Wipe}
use Rattle.perform.specs.declared.values.Turn.{Turn}
use Rattle.perform.specs.Turns.{call_of, calls_in}

proper_links : (ms : List ℕ) (gs : List Range) → Proper (links_of ms gs)
proper_links [] gs = tt
proper_links (m ∷ ms) [] = tt
proper_links (m ∷ ms) (g ∷ gs) = (g.ordered, proper_links ms gs)

proper_from : (ms : List ℕ) (gs : List Range) → Proper (net_from ms gs).rest
proper_from [] gs = tt
proper_from (m ∷ ms) gs = proper_links ms gs

proper_rules : (rs : List Rule) → ProperRules (map net_of rs)
proper_rules [] = tt
proper_rules (r ∷ rs) = (proper_from (motifs_of r) (ranges_of r), proper_rules rs)

proper_call : (c : Call) → ProperCall (call_of c)
proper_call (Lay book rule order) = proper_rules (rules_in book.now)
proper_call (Look allowance) = tt
proper_call (Take strip) = tt
proper_call Wipe = tt

pub proper_calls : (ts : List Turn) → ProperCalls (calls_in ts)
proper_calls [] = tt
proper_calls (t ∷ ts) = (proper_call t.call, proper_calls ts)
