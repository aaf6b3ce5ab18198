-- What the test of marks tells. Assumes nothing.
use Rattle.std.proofs.Common.{◌≡◌, ℕ, zero, suc, ◌+◌, ◌<◌, ◌≤◌, Bool, true, false, not, ltb, List, [], ◌∷◌, map, length, get_or, drop, is_some, Some, None, Option, sym, subst, ⊎_elim, add-one, arith}
use Rattle.std.specs.List.Sorted.{IsSortedByKey}
use Rattle.std.proofs.lemmas.List.{drop_more, get_or-map}
use Rattle.std.proofs.lemmas.Bool.{both_ways, cases_Bool, cond_both, ltb-false, ltb-true, true≢false}
use Rattle.std.proofs.lemmas.Bool.Decides.{nat_tests}
use Rattle.refusal.specs.Checks.{refuse}
use Rattle.entry.specs.declared.mark.Mark.{Mark}
use Rattle.mark.specs.declared.fault.MarkFault.{MarkFault}
use Rattle.mark.specs.declared.fault.MarkFault.TheVariants.{TooLong, Entry}
use Rattle.mark.specs.Faults.{fault_from, fits, mark_fault}
use Rattle.mark.specs.Judged.{FailsAt, Judged, Sound}
use Rattle.mark.specs.Keys.{before, rank_key, start_key}
use Rattle.mark.specs.Lawful.{fits-lawful}
use Rattle.mark.specs.Marks.{Before, LawfulMark}

-- the test goes one mark on
pub fault_on : (n : ℕ) (p : Option Mark) (ms : List Mark) (i : ℕ) (d : Mark) → i < length ms → (m : Mark) → m ≡ get_or ms i d → (t : Bool) → t ≡ fits n p m
    → fault_from n p i (drop i ms) ≡ refuse (not t) (Entry i) (fault_from n (Some m) (i + 1) (drop (i + 1) ms))
fault_on n p ms i d h m e t f = rw (drop_more ms i d h, f, e)

-- the mark before the one at i, where p stands before all
abbrev prior : Option Mark → List Mark → ℕ → Option Mark
prior p ms i = get_or (p ∷ map Some ms) i None

-- the first j marks fit
abbrev Fit : ℕ → Option Mark → List Mark → ℕ → Type 0
Fit n p ms j = (i : ℕ) (d : Mark) → i < j → fits n (prior p ms i) (get_or ms i d) ≡ true

-- what a fault, told of the marks from entry e on, says of them
abbrev Tells : ℕ → Option Mark → ℕ → List Mark → Option MarkFault → Type 0
Tells n p e ms None = Fit n p ms (length ms)
Tells n p e ms (Some TooLong) = ⊥
Tells n p e ms (Some (Entry x)) = (j : ℕ) × (x ≡ e + j) × (j < length ms) × Fit n p ms j × ((d : Mark) → fits n (prior p ms j) (get_or ms j d) ≡ false)

fit_on : (n : ℕ) (p : Option Mark) (m : Mark) (ms : List Mark) (j : ℕ) → fits n p m ≡ true → Fit n (Some m) ms j → Fit n p (m ∷ ms) (suc j)
fit_on n p m ms j here rest zero d h = here
fit_on n p m ms j here rest (suc i) d h = rest i d (omega arith)

tells_on : (n : ℕ) (p : Option Mark) (e : ℕ) (m : Mark) (ms : List Mark) (r : Option MarkFault) → fits n p m ≡ true → Tells n (Some m) (e + 1) ms r → Tells n p e (m ∷ ms) r
tells_on n p e m ms None here t = fit_on n p m ms (length ms) here t
tells_on n p e m ms (Some TooLong) here t = t
tells_on n p e m ms (Some (Entry x)) here t = (suc t.0, omega (arith, t.1), omega (arith, t.2), fit_on n p m ms t.0 here t.3, t.4)

fault-tells : (n : ℕ) (p : Option Mark) (e : ℕ) (ms : List Mark) → Tells n p e ms (fault_from n p e ms)
fault-tells n p e [] = λ i d h. absurd (omega arith)
fault-tells n p e (m ∷ ms) =
    let Goal : Bool → Type 0 = λ t. Tells n p e (m ∷ ms) (refuse (not t) (Entry e) (fault_from n (Some m) (e + 1) ms)) in
    ⊎_elim
    (λ yes. subst Goal (sym yes) (tells_on n p e m ms (fault_from n (Some m) (e + 1) ms) yes (fault-tells n (Some m) (e + 1) ms)))
    (λ no. subst Goal (sym no) (0, omega arith, omega arith, λ i d h. absurd (omega arith), λ d. no))
    (cases_Bool (fits n p m))

fits_after : (n : ℕ) (p m : Mark) → fits n (Some p) m ≡ true → Before p m
fits_after n p m h = grind (arith, nat_tests)

lawful-fits : (n : ℕ) (p m : Mark) → LawfulMark n m → Before p m → fits n (Some p) m ≡ true
lawful-fits n p m l b = grind (arith, nat_tests)

lawful-fits-first : (n : ℕ) (m : Mark) → LawfulMark n m → fits n None m ≡ true
lawful-fits-first n m l = grind (arith, nat_tests)

prior_is : (ms : List Mark) (i : ℕ) (d : Mark) → i < length ms → prior None ms (suc i) ≡ Some (get_or ms i d)
prior_is ms i d h = get_or-map Some ms i d None h

fit-sound : (n : ℕ) (ms : List Mark) (j : ℕ) → j ≤ length ms → Fit n None ms j → Sound n ms j
fit-sound n ms j l fit = record {
  lawful = λ i d h. fits-lawful n (prior None ms i) (get_or ms i d) (fit i d h);
  ascending = λ i d h.
      let f = subst (λ q. fits n q (get_or ms (suc i) d) ≡ true) (prior_is ms i d (omega arith)) (fit (suc i) d (omega arith)) in
      rw add-one (fits_after n (get_or ms i d) (get_or ms (suc i) d) f);
}

-- with the mark at j, which does not fit, the first marks are not sound
unfit_unsound : (n : ℕ) (ms : List Mark) (j : ℕ) → j < length ms → ((d : Mark) → fits n (prior None ms j) (get_or ms j d) ≡ false) → Sound n ms (j + 1) → ⊥
unfit_unsound n [] j h unfit sound = omega arith
unfit_unsound n (m ∷ ms) zero h unfit sound = both_ways _ (unfit m) (lawful-fits-first n m (sound.lawful 0 m (omega arith)))
unfit_unsound n (m ∷ ms) (suc j) h unfit sound =
    let p = get_or (m ∷ ms) j m in
    let q = get_or (m ∷ ms) (suc j) m in
    let after : Before p q = rw add-one at (sound.ascending j m (omega arith)) in
    both_ways (fits n (Some p) q) (subst (λ x. fits n x q ≡ false) (prior_is (m ∷ ms) j m (omega arith)) (unfit m)) (lawful-fits n p q (sound.lawful (suc j) m (omega arith)) after)

judged_from : (n : ℕ) (ms : List Mark) (r : Option MarkFault) → n ≤ 20000 → Tells n None 0 ms r → Judged n ms r
judged_from n ms None l t = record { short = l; all = fit-sound n ms (length ms) (omega arith) t }
judged_from n ms (Some TooLong) l t = absurd t
judged_from n ms (Some (Entry x)) l t =
    let at : t.0 ≡ x = omega (arith, t.1) in
    subst (FailsAt n ms) at (record { short = l; entry = t.2; before = fit-sound n ms t.0 (omega (arith, t.2)) t.3; fails = unfit_unsound n ms t.0 t.2 t.4 })

fault-judged : (n : ℕ) (ms : List Mark) → Judged n ms (mark_fault n ms)
fault-judged n ms =
    cond_both (ltb 20000 n) (Some TooLong) (fault_from n None 0 ms) (Judged n ms) (λ long. ltb-true 20000 n long) (λ short. judged_from n ms (fault_from n None 0 ms) (ltb-false 20000 n short) (fault-tells n None 0 ms))

pub judged : (n : ℕ) (ms : List Mark) (r : Option MarkFault) → r ≡ mark_fault n ms → Judged n ms r
judged n ms r e = subst (Judged n ms) (sym e) (fault-judged n ms)

none-sound : (n : ℕ) (ms : List Mark) (r : Option MarkFault) → is_some r ≡ false → Judged n ms r → Sound n ms (length ms)
none-sound n ms None e j = j.all
none-sound n ms (Some f) e j = absurd (true≢false e)

after_not_before : (p q : Mark) → Before p q → before (start_key q) (start_key p) ≡ false
after_not_before p q b = grind (arith, nat_tests)

-- marks that passed are sorted by start
pub passed_sorted : (n : ℕ) (ms : List Mark) → is_some (mark_fault n ms) ≡ false → IsSortedByKey start_key rank_key ms
passed_sorted n ms none i d _ h = after_not_before (get_or ms i d) (get_or ms (i + 1) d) ((none-sound n ms (mark_fault n ms) none (fault-judged n ms)).ascending i d h)
