-- What stands at a number of a list of rules is the rule with that number.
use Rattle.std.proofs.Common.{◌≡◌, ℕ, List, map, length, Some, None, Option, sym, refl, ap, ◌∙◌, Bor}
use Rattle.std.specs.Option.{option_map}
use Rattle.std.specs.Slice.{IsGetResult}
use Rattle.std.proofs.lemmas.Option.{slice_get-map, slice_get_past, slice_get_read}
use Rattle.entry.specs.Rules.{net_of}
use Rattle.entry.specs.declared.rule.Rule.{Rule}
use Rattle.walk.specs.Asked.{rule_numbered}

pub rule_found : (r : Option (Bor Rule)) (rs : List Rule) (k : ℕ) → IsGetResult rs k k r → option_map (λ x. net_of x.now) r ≡ rule_numbered (map net_of rs) k
rule_found None rs k i = sym (slice_get-map net_of rs k ∙ ap (option_map net_of) (slice_get_past rs k i.3))
rule_found (Some x) rs k i = sym (slice_get-map net_of rs k ∙ ap (option_map net_of) (slice_get_read rs (length rs) k x.now refl i.3.0 (i.3.1 x.now)))
