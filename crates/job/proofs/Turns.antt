-- The laws of reading, by the lines.
use Rattle.std.proofs.Common.{◌≡◌, ℕ, suc, ◌+◌, ◌-◌, ◌<◌, List, [], ◌∷◌, ◌++◌, length, get_or, take, Some, None, Ok, Err, Option, sym, refl, ap, ◌∙◌, subst, arith}
use Rattle.text.specs.Pages.{Page}
use Rattle.text.specs.declared.faults.TextFault.{TextFault}
use Rattle.job.specs.Jobs.{Read, line_read, read_lines, read_on}
use Rattle.job.specs.declared.fault.JobFault.{JobFault}
use Rattle.job.specs.Laws.{StopsAt}
use Rattle.job.proofs.Reading.{forgets}

-- the lines from number k + 1 on, read into p
abbrev on : ℕ → Page → List (List ℕ) → Read
on k p ls = read_on k p (Ok p) ls

-- a line that is taken is behind
passed : (k : ℕ) (p q : Page) (l : List ℕ) (ls : List (List ℕ)) → line_read p l ≡ Ok q → on k p (l ∷ ls) ≡ on (k + 1) q ls
passed k p q l ls e = ap (λ r. read_on (k + 1) p r ls) e ∙ sym (forgets (k + 1) p q ls)

line_in : Option JobFault → ℕ
line_in None = 0
line_in (Some f) = f.line

fault_or : TextFault → Option JobFault → TextFault
fault_or x None = x
fault_or x (Some f) = f.fault

same-fault : (n m : ℕ) (e x : TextFault) → ◌≡◌ {A = Option JobFault} (Some (record { line = n; fault = e })) (Some (record { line = m; fault = x })) → (n ≡ m) × (e ≡ x)
unfolding line_in fault_or
same-fault n m e x h = (ap line_in h, ap (fault_or x) h)

-- as `StopsAt`, m lines behind number k
record Stopped (k : ℕ) (p : Page) (ls : List (List ℕ)) (n : ℕ) (e : TextFault) : Type 0 where
  m : ℕ
  at : n ≡ k + 1 + m
  inside : m < length ls
  before : on k p (take m ls) ≡ record { page = (on k p ls).page; fault = None }
  line : line_read (on k p ls).page (get_or ls m []) ≡ Err e

stopped : (k : ℕ) (p : Page) (ls : List (List ℕ)) (n : ℕ) (e : TextFault) → (on k p ls).fault ≡ Some (record { line = n; fault = e }) → Stopped k p ls n e
stopped k p [] n e h = let z : ◌≡◌ {A = ℕ} 0 1 = cc in absurd (omega arith)
stopped k p (l ∷ ls) n e h =
    elim (line_read p l) as (λ r. line_read p l ≡ r → Stopped k p (l ∷ ls) n e) [
      | Ok q ↦ (λ is.
          let step = passed k p q l ls is in
          let s = stopped (k + 1) q ls n e (sym (ap (λ x. x.fault) step) ∙ h) in
          record {
            m = suc s.m;
            at = omega (arith, s.at);
            inside = omega (arith, s.inside);
            before = passed k p q l (take s.m ls) is ∙ s.before ∙ ap (λ x. record { page = x.page; fault = None }) (sym step);
            line = ap (λ x. line_read x.page (get_or ls s.m [])) step ∙ s.line;
          })
      | Err x ↦ (λ is.
          let here : on k p (l ∷ ls) ≡ record { page = p; fault = Some (record { line = k + 1; fault = x }) } = ap (λ r. read_on (k + 1) p r ls) is in
          let told = sym h ∙ ap (λ y. y.fault) here in
          let same = same-fault n (k + 1) e x told in
          record {
            m = 0;
            at = omega (arith, same.0);
            inside = omega arith;
            before = ap (λ y. record { page = y.page; fault = None }) (sym here);
            line = ap (λ y. line_read y.page l) here ∙ is ∙ ap Err (sym same.1);
          })
    ] refl

pub stops : (p : Page) (ls : List (List ℕ)) (n : ℕ) (e : TextFault) → (read_lines p ls).fault ≡ Some (record { line = n; fault = e }) → StopsAt p ls n e
stops p ls n e h =
    let s = stopped 0 p ls n e h in
    let m : s.m ≡ n - 1 = omega (arith, s.at) in
    record {
      within = (omega (arith, s.at), omega (arith, s.at, s.inside));
      before = subst (λ x. read_lines p (take x ls) ≡ record { page = (read_lines p ls).page; fault = None }) m s.before;
      line = subst (λ x. line_read (read_lines p ls).page (get_or ls x []) ≡ Err e) m s.line;
    }

-- the numbers of the lines do not show in the page
page_on : (j k : ℕ) (p : Page) (ls : List (List ℕ)) → (on j p ls).page ≡ (on k p ls).page
page_on j k p [] = refl
page_on j k p (l ∷ ls) =
    elim (line_read p l) as (λ r. line_read p l ≡ r → (on j p (l ∷ ls)).page ≡ (on k p (l ∷ ls)).page) [
      | Ok q ↦ (λ is. ap (λ x. x.page) (passed j p q l ls is) ∙ page_on (j + 1) (k + 1) q ls ∙ sym (ap (λ x. x.page) (passed k p q l ls is)))
      | Err x ↦ (λ is. ap (λ r. (read_on (j + 1) p r ls).page) is ∙ sym (ap (λ r. (read_on (k + 1) p r ls).page) is))
    ] refl

in_turn_on : (k : ℕ) (p : Page) (ls ms : List (List ℕ)) → (on k p ls).fault ≡ None → (on k p (ls ++ ms)).page ≡ (on 0 (on k p ls).page ms).page
in_turn_on k p [] ms h = page_on k 0 p ms
in_turn_on k p (l ∷ ls) ms h =
    elim (line_read p l) as (λ r. line_read p l ≡ r → (on k p (l ∷ (ls ++ ms))).page ≡ (on 0 (on k p (l ∷ ls)).page ms).page) [
      | Ok q ↦ (λ is.
          let step = passed k p q l ls is in
          ap (λ x. x.page) (passed k p q l (ls ++ ms) is) ∙ in_turn_on (k + 1) q ls ms (sym (ap (λ x. x.fault) step) ∙ h) ∙ ap (λ x. (on 0 x.page ms).page) (sym step))
      | Err x ↦ (λ is. let told : ◌≡◌ {A = ℕ} 0 1 = cc (sym h ∙ ap (λ r. (read_on (k + 1) p r ls).fault) is) in absurd (omega arith))
    ] refl

pub in_turn : (p : Page) (ls ms : List (List ℕ)) → (read_lines p ls).fault ≡ None → (read_lines p (ls ++ ms)).page ≡ (read_lines (read_lines p ls).page ms).page
in_turn p ls ms h = in_turn_on 0 p ls ms h
