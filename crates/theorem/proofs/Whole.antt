-- The bill of a finished sheet is the laid order's price by the count, and the planned order has the least.
use Rattle.std.proofs.Common.{◌≡◌, ℕ, ◌≤◌, ◌⊎◌, List, sym, refl, ap, ◌∙◌, subst, ap₂, inl, inr, arith}
use Rattle.entry.specs.Rules.{Net}
use Rattle.source.specs.Meaning.{Priced, plain}
use Rattle.walk.specs.declared.letter.Letter.{Letter}
use Rattle.walk.specs.Walk.{Order}
use Rattle.sheet_model.specs.Sheet.{answers, clean}
use Rattle.sheet_model.specs.Accounts.{Account, TellsAll, no_entries, entered}
use Rattle.sheet_model.proofs.Sheets.{calls_accounted}
use Rattle.forecast.specs.declared.value.Forecast.{Forecast}
use Rattle.planner.specs.Orders.{Terms, Completes, Before, price}
use Rattle.planner.specs.Terms.{terms_by}
use Rattle.planner.specs.Laws.{Agree, counted}
use Rattle.planner.proofs.Laws.{counted-price, allowed-completes}
use Rattle.planner.proofs.Agreement.{same_prices}
use Rattle.counter.specs.Counts.{Counted}
use Rattle.theorem.specs.Whole.{Cheapest, WholeStands}

-- a counted forecast says what the true numbers say
counted_agrees : (P : Priced) (r : Net) (f : Forecast) → Counted (plain P) r f → Agree (terms_by P r f) (counted P r)
counted_agrees P r f c =
    record { motifs = refl; boxes = c.boxes; look = λ i a b. refl; opening = λ i a b. refl; width = λ k a b. refl; forecast = λ i j a b d. c.runs i j a b d }

no_lower : (T : Terms) (s : ℕ) (ls : List Letter) (o : Order) (c : ℕ) → price T s ls ≡ c → ((s ≡ o.seed) × (ls ≡ o.letters)) ⊎ Before T s ls o.seed o.letters → c ≤ price T o.seed o.letters
no_lower T s ls o c e (inl q) = let same : price T s ls ≡ price T o.seed o.letters = ap₂ (price T) q.0 q.1 in omega (arith, e, same)
no_lower T s ls o c e (inr (inl h)) = omega (arith, e, h)
no_lower T s ls o c e (inr (inr h)) = omega (arith, e, h.0)

cheapest : (P : Priced) (h : Account) → TellsAll P h → Cheapest P h
cheapest P h t r o task finished f c s ls price' planned =
    let T = terms_by P r f in
    let all : Completes T o.seed o.seed o.letters = (allowed-completes T r o refl).0 (t.allowed r o task) in
    let bill : h.bill ≡ price T o.seed o.letters =
    t.billed r o task finished ∙ counted-price P r o ∙ sym (same_prices T (counted P r) (counted_agrees P r f c) o.seed o.letters all) in (
      λ e. bill ∙ ap (λ q. price T q.seed q.letters) e ∙ planned.priced,
      subst (λ b. price' ≤ b) (sym bill) (no_lower T s ls o price' planned.priced (planned.before o.seed o.letters all)),
    )

pub whole-stands : WholeStands
whole-stands P lawful cs proper =
    let t = calls_accounted P lawful cs proper in
    record { answered = refl; spent = t.spent; tells = t.tells; bill_told = t.bill; cheapest = cheapest P (entered no_entries cs (answers P clean cs)) t.tells }
