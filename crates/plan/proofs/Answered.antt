-- What is priced by a tariff is priced for the rule, and what is weighed is forecast.
use Rattle.std.proofs.Common.{◌≡◌, ℕ, ◌<◌, ◌≤◌, Bool, true, ltb, IfOk, Some, None, Ok, Err, Option, Result, sym, refl, ap, ◌∙◌, subst, arith}
use Rattle.std.specs.Option.{ok_or}
use Rattle.std.proofs.lemmas.Bool.Decides.{nat_tests}
use Rattle.refusal.specs.Checks.{refuse, refused_by}
use Rattle.refusal.specs.declared.Refusal.{Refusal}
use Rattle.refusal.specs.declared.Refusal.TheVariants.{BadOrder, SourceTooLong, UnknownRule}
use Rattle.entry.specs.Rules.{Net}
use Rattle.source.specs.Meaning.{Priced}
use Rattle.walk.specs.Walk.{Order}
use Rattle.forecast.specs.declared.runs.Runs.{Runs}
use Rattle.forecast.specs.declared.value.Forecast.{Forecast}
use Rattle.forecast.specs.Forecasts.{boxes_of, forecast_at, forecast_fault}
use Rattle.forecast.specs.Runs.{number_at}
use Rattle.forecast.proofs.Cells.{faultless, too_long}
use Rattle.planner.specs.declared.planned.Planned.{Planned}
use Rattle.planner.specs.Letters.{planned_order}
use Rattle.planner.specs.Orders.{Terms, Asked, IsPlanned}
use Rattle.planner.specs.Laws.{Agree}
use Rattle.planner.specs.Terms.{terms_by}
use Rattle.planner.proofs.Agreement.{same_prices, same-plan}
use Rattle.planner.proofs.Laws.{allowed-completes}
use Rattle.planner.proofs.Only.{only_one}
use Rattle.plan.specs.Answers.{PlanAnswer, PlansOnly, PriceAnswer, Prices}
use Rattle.plan.specs.Weighed.{RunsWeighed, Weighed, weigh_fault, weighed}

-- t is a tariff's, and the rule with the number asked for is r
module _ (P : Priced) (r : Net) (f : Forecast) (t : Terms) (agree : Agree t (terms_by P r f)) (asked : Option Net) (is : Some r ≡ asked) where
  pub priced_answer : (o : Order) (found : Option ℕ) (res : Result ℕ Refusal) → Asked t o.seed o.letters found → res ≡ ok_or found BadOrder → PriceAnswer P asked o f res
  priced_answer o found res a e = subst (λ r. PriceAnswer P r o f res) is (subst (Prices (terms_by P r f) r o) (sym e) (go found a))
    where
      go : (found : Option ℕ) → Asked t o.seed o.letters found → Prices (terms_by P r f) r o (ok_or found BadOrder)
      go (Some c) a = ((allowed-completes t r o agree.motifs).1 a.0, a.1 ∙ same_prices t (terms_by P r f) agree o.seed o.letters a.0)
      go None a = (refl, λ ok. a ((allowed-completes t r o agree.motifs).0 ok))

  module _ (p : Planned) (best : IsPlanned t (planned_order p).seed (planned_order p).letters p.price) where
    planned : IsPlanned (terms_by P r f) (planned_order p).seed (planned_order p).letters p.price
    planned = same-plan t (terms_by P r f) agree (planned_order p).seed (planned_order p).letters p.price best

    pub planned_answer : PlanAnswer P asked f (Ok p)
    planned_answer = subst (λ r. PlanAnswer P r f (Ok p)) is planned

    pub planned_alone : PlansOnly P asked f p
    planned_alone = subst (λ r. PlansOnly P r f p) is (only_one (terms_by P r f) (planned_order p).seed (planned_order p).letters p.price planned)

-- no length above 20,000 is weighed, whatever the rule
pub too_many : (W : ℕ → ℕ) (n : ℕ) (r : Option Net) → 20000 < n → Some SourceTooLong ≡ weigh_fault W n r
too_many W n None over =
    let long : ltb 20000 n ≡ true = grind (arith, nat_tests) in
    sym (ap (λ (x : Bool). refuse x SourceTooLong (Some UnknownRule)) long)
too_many W n (Some r) over = too_long n (weighed W n r) over

pub record WeighAnswer (W : ℕ → ℕ) (n : ℕ) (asked : Option Net) (x : Result Forecast Refusal) : Type 0 where
  pub refused : refused_by x ≡ weigh_fault W n asked
  pub value : IfOk x (Weighed W n asked)

-- a table of small numbers is forecast
module _ (W : ℕ → ℕ) (n : ℕ) (r : Net) (runs : Runs) (short : n ≤ 20000) (done : RunsWeighed (weighed W n r) (Ok runs)) where
  alike : forecast_fault n (number_at runs) ≡ forecast_fault n (weighed W n r)
  alike = faultless n (number_at runs) short (λ i j. omega (arith, done.0 i j, done.1 i j)) ∙ sym (faultless n (weighed W n r) short done.1)

  weighing : (x : Result Forecast Refusal) → refused_by x ≡ forecast_fault n (number_at runs) → IfOk x (λ f. (boxes_of f ≡ n) × ((i j : ℕ) → forecast_at f i j ≡ number_at runs i j)) → WeighAnswer W n (Some r) x
  weighing (Ok f) refused value = record { refused = refused ∙ alike; value = (value.0, λ i j. value.1 i j ∙ done.0 i j) }
  weighing (Err e) refused value = record { refused = refused ∙ alike; value = tt }

  pub weighed_ok : (asked : Option Net) → Some r ≡ asked → (x : Result Forecast Refusal) → refused_by x ≡ forecast_fault n (number_at runs) → IfOk x (λ f. (boxes_of f ≡ n) × ((i j : ℕ) → forecast_at f i j ≡ number_at runs i j)) → WeighAnswer W n asked x
  weighed_ok asked e x refused value = subst (λ r. WeighAnswer W n r x) e (weighing x refused value)
