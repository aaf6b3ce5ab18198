-- What calls on a clean sheet and their replies tell, whole: each reply, the finds, the bill, and the bill against the plan.
use Rattle.std.specs.Prelude.{◌≡◌, ℕ, ◌≤◌, true, List, Some}
use Rattle.entry.specs.Rules.{Net}
use Rattle.source.specs.Meaning.{Priced, Lawful, plain}
use Rattle.walk.specs.declared.letter.Letter.{Letter}
use Rattle.walk.specs.Walk.{Order}
use Rattle.sheet_model.specs.Sheet.{Call, Reply, clean, bill_of, answers, after}
use Rattle.sheet_model.specs.History.{EachSpends, ProperCalls}
use Rattle.sheet_model.specs.Accounts.{Account, no_entries, entered, TellsAll}
use Rattle.forecast.specs.declared.value.Forecast.{Forecast}
use Rattle.planner.specs.Orders.{IsPlanned}
use Rattle.planner.specs.Terms.{terms_by}
use Rattle.counter.specs.Counts.{Counted}

-- Count the laid rule on any source of this meaning, and plan from the count by its prices. On a finished sheet the planned order has the planned price as its bill, and no order has a lower bill.
abbrev pub Cheapest : Priced → Account → Type 0
Cheapest P h =
    (r : Net) (o : Order) → h.task ≡ Some (record { rule = r; order = o }) → h.finished ≡ true → (f : Forecast) → Counted (plain P) r f → (seed : ℕ) (letters : List Letter) (price : ℕ) → IsPlanned (terms_by P r f) seed letters price → (o ≡ record { seed = seed; letters = letters } → h.bill ≡ price) × (price ≤ h.bill)

-- of the calls cs on a clean sheet over a source that means P, their replies rs, and the bill that the sheet answers after them
pub record Whole (P : Priced) (cs : List Call) (rs : List Reply) (bill : ℕ) : Type 0 where
  -- each call answers and writes what the definitions of sheet, walk and refusals give
  pub answered : rs ≡ answers P clean cs
  -- a look makes no more looks than its allowance, and pauses only when it has made them all
  pub spent : EachSpends cs rs
  -- the finds taken are placements of the laid rule, no two alike, and on a finished sheet all of them; its bill is the price by the true numbers of partial placements; each look goes on where the one before it stopped
  pub tells : TellsAll P (entered no_entries cs rs)
  -- the bill that the sheet answers is the one that the last accepted look since the lay told
  pub bill_told : bill ≡ (entered no_entries cs rs).bill
  -- the planned order comes to the planned price, and no other to less
  pub cheapest : Cheapest P (entered no_entries cs rs)

abbrev pub WholeStands : Type 0
WholeStands = (P : Priced) → Lawful (plain P) → (cs : List Call) → ProperCalls cs → Whole P cs (answers P clean cs) (bill_of (after P clean cs))
