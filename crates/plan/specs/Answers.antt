-- What price and plan answer, of the rule that was asked for, if the book has it.
use Rattle.std.specs.Prelude.{◌≡◌, ℕ, Some, None, Ok, Err, Option, Result}
use Rattle.refusal.specs.declared.Refusal.{Refusal}
use Rattle.refusal.specs.declared.Refusal.TheVariants.{BadOrder, UnknownRule}
use Rattle.entry.specs.Rules.{Net}
use Rattle.source.specs.Meaning.{Priced}
use Rattle.walk.specs.Walk.{Order, Allowed}
use Rattle.forecast.specs.declared.value.Forecast.{Forecast}
use Rattle.planner.specs.declared.planned.Planned.{Planned}
use Rattle.planner.specs.Orders.{Terms, IsPlanned, price}
use Rattle.planner.specs.Terms.{terms_by}
use Rattle.planner.specs.Letters.{planned_order}
use Rattle.planner.specs.Laws.{Only}

-- the price of an order of the rule r, and of no other order
abbrev pub Prices : Terms → Net → Order → Result ℕ Refusal → Type 0
Prices t r o (Ok c) = Allowed r o × (c ≡ price t o.seed o.letters)
Prices t r o (Err e) = (e ≡ BadOrder) × (Allowed r o → ⊥)

abbrev pub PriceAnswer : Priced → Option Net → Order → Forecast → Result ℕ Refusal → Type 0
PriceAnswer P None o f x = x ≡ Err UnknownRule
PriceAnswer P (Some r) o f x = Prices (terms_by P r f) r o x

abbrev pub Plans : Terms → Result Planned Refusal → Type 0
Plans t (Ok p) = IsPlanned t (planned_order p).seed (planned_order p).letters p.price
Plans t (Err e) = ⊥

abbrev pub PlanAnswer : Priced → Option Net → Forecast → Result Planned Refusal → Type 0
PlanAnswer P None f x = x ≡ Err UnknownRule
PlanAnswer P (Some r) f x = Plans (terms_by P r f) x

-- nothing else is planned for the rule
abbrev pub PlansOnly : Priced → Option Net → Forecast → Planned → Type 0
PlansOnly P None f p = ⊥
PlansOnly P (Some r) f p = Only (terms_by P r f) (planned_order p).seed (planned_order p).letters p.price
