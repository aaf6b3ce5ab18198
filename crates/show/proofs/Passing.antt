-- The test of a show: one stretch that fails fails them all, and a copy of the strip's front has the same stretches.
use Rattle.std.proofs.Common.{◌≡◌, ℕ, zero, suc, ◌+◌, ◌-◌, ◌*◌, ◌<◌, ◌≤◌, true, false, ◌&&◌, leb, List, take, refl, ap, ◌∙◌, subst, ⊎_elim, add-one, arith}
use Rattle.std.proofs.lemmas.List.{get_or-take}
use Rattle.std.proofs.lemmas.Bool.{and_from, and_left, and_parts, and_right, cases_Bool, cases_eq, leb-true}
use Rattle.std.proofs.lemmas.Bool.Decides.{nat_tests}
use Rattle.show.specs.Faults.{pass_all, passes}
use Rattle.show.specs.Stretches.{boxes, end_of, reads, start_of}

module _ (strip : List ℕ) (n : ℕ) where
  pub fails : (m k : ℕ) → k < m → passes strip n k ≡ false → pass_all strip n m ≡ false
  fails zero k h e = absurd (omega arith)
  fails (suc m) k h e =
      ⊎_elim
      (λ same. and_right (pass_all strip n m) (passes strip n m) (subst (λ j. passes strip n j ≡ false) same e))
      (λ apart. and_left (pass_all strip n m) (passes strip n m) (fails m k (omega arith) e))
      (cases_eq k m)

  -- a stretch in the ink that brings too many boxes fails, and one that isn't in the ink has nothing to bring
  pub turned_down : (k : ℕ) → (start_of strip k ≤ end_of strip k → end_of strip k ≤ n → 64 < boxes strip (suc k)) → passes strip n k ≡ false
  turned_down k over =
      ⊎_elim
      (λ t.
      let p = and_parts (leb (start_of strip k) (end_of strip k)) (leb (end_of strip k) n && leb (boxes strip (suc k)) 64) t in
      let q = and_parts (leb (end_of strip k) n) (leb (boxes strip (suc k)) 64) p.1 in
      absurd (omega (arith, over (leb-true (start_of strip k) (end_of strip k) p.0) (leb-true (end_of strip k) n q.0), leb-true (boxes strip (suc k)) 64 q.1)))
      (λ e. e)
      (cases_Bool (passes strip n k))

  pub passes_on : (k : ℕ) → pass_all strip n k ≡ true → start_of strip k ≤ end_of strip k → end_of strip k ≤ n → boxes strip k + (end_of strip k - start_of strip k) ≤ 64 → pass_all strip n (k + 1) ≡ true
  passes_on k so p q r = ap (pass_all strip n) (add-one k) ∙ and_from (pass_all strip n k) (passes strip n k) so (grind (arith, nat_tests))

  pub passed-small : (m : ℕ) → pass_all strip n m ≡ true → boxes strip m ≤ 64
  passed-small zero h = omega arith
  passed-small (suc m) h = let p = (and_parts (pass_all strip n m) (passes strip n m) h).1 in grind (arith, nat_tests)

module _ (strip : List ℕ) (n : ℕ) where
  start-front : (k : ℕ) → 2 * k < n → start_of (take n strip) k ≡ start_of strip k
  start-front k h = get_or-take n strip (2 * k) 0 h

  end-front : (k : ℕ) → 2 * k + 1 < n → end_of (take n strip) k ≡ end_of strip k
  end-front k h = get_or-take n strip (2 * k + 1) 0 h

  pub boxes-front : (m : ℕ) → 2 * m ≤ n → boxes (take n strip) m ≡ boxes strip m
  boxes-front zero h = refl
  boxes-front (suc m) h = omega (arith, boxes-front m (omega arith), start-front m (omega arith), end-front m (omega arith))

  pub reads-front : (m : ℕ) → 2 * m ≤ n → (i b : ℕ) → reads (take n strip) m i b ≡ reads strip m i b
  reads-front zero h i b = refl
  reads-front (suc m) h i b =
      let s = start-front m (omega arith) in
      let e = end-front m (omega arith) in
      let r = reads-front m (omega arith) i b in
      cc

  passes-front : (z k : ℕ) → 2 * suc k ≤ n → passes (take n strip) z k ≡ passes strip z k
  passes-front z k h =
      let s = start-front k (omega arith) in
      let e = end-front k (omega arith) in
      let b = boxes-front (suc k) h in
      cc

  pub pass_all-front : (z m : ℕ) → 2 * m ≤ n → pass_all (take n strip) z m ≡ pass_all strip z m
  pass_all-front z zero h = refl
  pass_all-front z (suc m) h =
      let a = pass_all-front z m (omega arith) in
      let p = passes-front z m h in
      cc
