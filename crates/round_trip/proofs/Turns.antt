-- Lines that are taken one after the other, and the pages that they lead to.
use Rattle.std.proofs.Common.{◌≡◌, ℕ, ◌+◌, List, [], ◌∷◌, ◌++◌, map, Ok, sym, refl, ap, ◌∙◌, subst, append_assoc}
use Rattle.std.proofs.lemmas.List.{append-nil}
use Rattle.text.specs.Pages.{Page}
use Rattle.job.specs.Jobs.{line_read, read_on}
use Rattle.job.proofs.Reading.{forgets}

-- behind the lines, the rest is read as if into the page q
abbrev pub Leads : Page → List (List ℕ) → Page → Type 0
Leads p ls q = (n : ℕ) (ms : List (List ℕ)) → (m : ℕ) × (read_on n p (Ok p) (ls ++ ms) ≡ read_on m q (Ok q) ms)

pub stays : (p : Page) → Leads p [] p
stays p n ms = (n, refl)

pub line_first : (p q r : Page) (l : List ℕ) (ls : List (List ℕ)) → line_read p l ≡ Ok q → Leads q ls r → Leads p (l ∷ ls) r
line_first p q r l ls e more n ms =
    let w = more (n + 1) ms in
    (w.0, ap (λ x. read_on (n + 1) p x (ls ++ ms)) e ∙ sym (forgets (n + 1) p q (ls ++ ms)) ∙ w.1)

pub both_lead : (p q r : Page) (ls ks : List (List ℕ)) → Leads p ls q → Leads q ks r → Leads p (ls ++ ks) r
both_lead p q r ls ks a b n ms =
    let v = a n (ks ++ ms) in
    let w = b v.0 ms in
    (w.0, ap (read_on n p (Ok p)) (append_assoc ls ks ms) ∙ v.1 ∙ w.1)

-- entries of one kind: each is taken into the page of those before it
module _ {X : Type 0} (page : List X → Page) (line : X → List ℕ) (all : List X) (taken : (done : List X) (x : X) (rest : List X) → done ++ x ∷ rest ≡ all → line_read (page done) (line x) ≡ Ok (page (done ++ x ∷ []))) where
  from : (done xs : List X) → done ++ xs ≡ all → Leads (page done) (map line xs) (page all)
  from done [] e = subst (λ x. Leads (page done) [] (page x)) (sym (append-nil done) ∙ e) (stays (page done))
  from done (x ∷ xs) e =
      line_first (page done) (page (done ++ x ∷ [])) (page all) (line x) (map line xs) (taken done x xs e) (from (done ++ x ∷ []) xs (append_assoc done (x ∷ []) xs ∙ e))

  pub in_turn : Leads (page []) (map line all) (page all)
  in_turn = from [] all refl
