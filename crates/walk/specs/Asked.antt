-- What a call names: a rule by its number, and an order.
use Rattle.std.specs.Prelude.{ℕ, List, Option}
use Rattle.std.specs.List.{slice_get}
use Rattle.entry.specs.Rules.{Net}
use Rattle.walk.specs.Walk.{Order}
use Rattle.walk.specs.declared.order.Order as declared

-- `rule_numbered rules k`  the rule with the number k, from 0, if there is one
abbrev pub rule_numbered : List Net → ℕ → Option Net
rule_numbered rules k = slice_get rules k

-- `order_of o`       the seed and the letters that an order holds
abbrev pub order_of : declared.Order → Order
order_of o = record { seed = o.seed; letters = o.letters.now }
