-- Of the ways that begin with L and with R, the cheaper one leads, and R among equals.
use Rattle.std.proofs.Common.{◌≡◌, ℕ, ◌<◌, ◌≤◌, List, ◌∷◌, Some, None, Option, MatchOption, sym, subst, arith}
use Rattle.walk.specs.declared.letter.Letter.{Letter}
use Rattle.walk.specs.declared.letter.Letter.TheVariants.{L, R}
use Rattle.planner.specs.declared.plan.Next.{Next}
use Rattle.planner.specs.Orders.{Terms, Completes, price_of_letters}
use Rattle.planner.specs.Best.{Ahead, Leads}
use Rattle.planner.specs.Ways.{IsWay, Way, Extends}
use Rattle.planner.proofs.Steps.{can}
use Rattle.planner.proofs.Best.{at_least, leads_L, leads_R}

module _ (t : Terms) (costs : ℕ → ℕ → ℕ) (i j : ℕ) (ahead : Ahead t costs i j) where
  -- a way that begins with the letter x costs no less than the best of them
  above : (x : Letter) (p : ℕ) (ms : List Letter) → IsWay t costs i j x p → Completes t i j (x ∷ ms) → p ≤ price_of_letters t i j (x ∷ ms)
  above x p ms w c = omega (arith, w.priced, at_least t i j x ms (ahead x w.can).least c)

  left_first : (l : Next) (right : Option Next) → Way t costs i j L (Some l) → Way t costs i j R right → MatchOption right (Unit {0}) (λ r. l.price < r.price) → Extends t i j (Some l)
  left_first l right w v cheaper =
      let leads = leads_L t i j w.1.can (ahead L w.1.can).least w.1.priced (λ ms c. dearer right v cheaper ms c) in
      (subst (λ x. Leads t i j x l.price) (sym w.0) leads, w.1.bound)
    where
      dearer : (right : Option Next) → Way t costs i j R right → MatchOption right (Unit {0}) (λ r. l.price < r.price) → (ms : List Letter) → Completes t i j (R ∷ ms) → l.price < price_of_letters t i j (R ∷ ms)
      dearer None v h ms c = absurd (v (can t i j R ms c))
      dearer (Some r) v h ms c = omega (arith, h, above R r.price ms v.1 c)

  right_first : (left : Option Next) (r : Next) → Way t costs i j L left → Way t costs i j R (Some r) → MatchOption left (Unit {0}) (λ l. r.price ≤ l.price) → Extends t i j (Some r)
  right_first left r w v cheap =
      let leads = leads_R t i j v.1.can (ahead R v.1.can).least v.1.priced (λ ms c. no_cheaper left w cheap ms c) in
      (subst (λ x. Leads t i j x r.price) (sym v.0) leads, v.1.bound)
    where
      no_cheaper : (left : Option Next) → Way t costs i j L left → MatchOption left (Unit {0}) (λ l. r.price ≤ l.price) → (ms : List Letter) → Completes t i j (L ∷ ms) → r.price ≤ price_of_letters t i j (L ∷ ms)
      no_cheaper None w h ms c = absurd (w (can t i j L ms c))
      no_cheaper (Some l) w h ms c = omega (arith, h, above L l.price ms w.1 c)

  module _ {left right : Option Next} (w : Way t costs i j L left) (v : Way t costs i j R right) where
    pub left_leads : {l r : Next} → left ≡ Some l → right ≡ Some r → l.price < r.price → Extends t i j left
    left_leads {l} {r} el er lt = subst (Extends t i j) (sym el) (left_first l (Some r) (subst (Way t costs i j L) el w) (subst (Way t costs i j R) er v) lt)

    pub right_leads : {l r : Next} → left ≡ Some l → right ≡ Some r → r.price ≤ l.price → Extends t i j right
    right_leads {l} {r} el er le = subst (Extends t i j) (sym er) (right_first (Some l) r (subst (Way t costs i j L) el w) (subst (Way t costs i j R) er v) le)

    pub left_alone : {l : Next} → left ≡ Some l → right ≡ None → Extends t i j left
    left_alone {l} el er = subst (Extends t i j) (sym el) (left_first l None (subst (Way t costs i j L) el w) (subst (Way t costs i j R) er v) tt)

    pub right_alone : {r : Next} → left ≡ None → right ≡ Some r → Extends t i j right
    right_alone {r} el er = subst (Extends t i j) (sym er) (right_first None r (subst (Way t costs i j L) el w) (subst (Way t costs i j R) er v) tt)
