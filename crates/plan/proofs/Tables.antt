-- A table of runs that is filled row by row.
use Rattle.std.proofs.Common.{◌≡◌, ℕ, ◌+◌, ◌-◌, ◌<◌, ◌≤◌, Bool, true, false, cond, ◌&&◌, eqb, ◌⊎◌, Ok, sym, refl, ap, ◌∙◌, ap₂, inl, inr, ⊎_elim, arith}
use Rattle.std.proofs.lemmas.Bool.{cases_lt}
use Rattle.std.proofs.lemmas.Bool.Decides.{nat_tests}
use Rattle.entry.specs.Rules.{Net}
use Rattle.forecast.specs.declared.runs.Runs.{Runs}
use Rattle.forecast.specs.Runs.{is_run, number_at, Put}
use Rattle.rules.specs.Nets.{motifs}
use Rattle.plan.specs.Weighed.{Begun, RunsWeighed, run_of, sooner, weighed}
use Rattle.plan.proofs.Weighing.{no_run}

-- what is 0 is the same in the table and out of it
either_way : (a b : Bool) (x : ℕ) → (a ≡ b) ⊎ (x ≡ 0) → cond a x 0 ≡ cond b x 0
either_way a b x (inl e) = ap (λ (t : Bool). cond t x 0) e
either_way true true x (inr e) = refl
either_way true false x (inr e) = e
either_way false true x (inr e) = sym e
either_way false false x (inr e) = refl

is_run_lem : (i j : ℕ) → 1 ≤ i → i ≤ j → j ≤ 12 → is_run i j ≡ true
is_run_lem i j some le within = grind (arith, nat_tests)

-- the run i to j becomes one of the sooner ones, and no other run does
now_sooner : (i j k l : ℕ) → (eqb k i && eqb l j) ≡ true → (k ≡ i) × (l ≡ j) × (sooner i (j + 1) k l ≡ true)
now_sooner i j k l e =
    let a : k ≡ i = grind (arith, nat_tests) in
    let b : l ≡ j = grind (arith, nat_tests) in
    (a, b, grind (arith, nat_tests))

still-sooner : (i j k l : ℕ) → (eqb k i && eqb l j) ≡ false → sooner i (j + 1) k l ≡ sooner i j k l
still-sooner i j k l e = grind (arith, nat_tests)

module _ (W : ℕ → ℕ) (n : ℕ) (r : Net) where
  abbrev F : ℕ → ℕ → ℕ
  F = weighed W n r

  pub begun : (runs : Runs) → ((i j : ℕ) → number_at runs i j ≡ 0) → Begun F (number_at runs) 1 1
  begun runs zeros = record { cells = λ i j. zeros i j ∙ either_way false (sooner 1 1 i j) (F i j) (go i j (sooner 1 1 i j) refl); small = λ i j. omega (arith, zeros i j) }
    where
      go : (i j : ℕ) (b : Bool) → sooner 1 1 i j ≡ b → (false ≡ sooner 1 1 i j) ⊎ (F i j ≡ 0)
      go i j false e = inl (sym e)
      go i j true e = inr (no_run W n r i j (λ some le within. let q : (i < 1) ⊎ (j < 1) = grind (arith, nat_tests) in ⊎_elim (λ h. omega arith) (λ h. omega arith) q))

  pub done_at : (runs : Runs) (i j : ℕ) → Begun F (number_at runs) i j → 1 ≤ j → number_at runs i (j - 1) ≡ F i (j - 1)
  done_at runs i j b some =
      let e : sooner i j i (j - 1) ≡ true = grind (arith, nat_tests) in
      b.cells i (j - 1) ∙ ap (λ (t : Bool). cond t (F i (j - 1)) 0) e

  pub more : (before after : Runs) (i j x : ℕ) → Put i j x before after → x ≡ F i j → 1 ≤ i → i ≤ j → j ≤ 12 → x ≤ 1_000_000_000 → Begun F (number_at before) i j → Begun F (number_at after) i (j + 1)
  more before after i j x put is some le few small b =
      record { cells = λ k l. cell k l (eqb k i && eqb l j) refl; small = λ k l. low k l (eqb k i && eqb l j) refl }
    where
      run : is_run i j ≡ true
      run = is_run_lem i j some le few

      at : (k l : ℕ) (t : Bool) → (eqb k i && eqb l j) ≡ t → number_at after k l ≡ cond t x (number_at before k l)
      at k l t e = put k l ∙ ap₂ (λ (a b : Bool). cond (a && b) x (number_at before k l)) run e

      cell : (k l : ℕ) (t : Bool) → (eqb k i && eqb l j) ≡ t → number_at after k l ≡ cond (sooner i (j + 1) k l) (F k l) 0
      cell k l true e =
          let h = now_sooner i j k l e in
          at k l true e ∙ is ∙ ap₂ F (sym h.0) (sym h.1) ∙ sym (ap (λ (t : Bool). cond t (F k l) 0) h.2)
      cell k l false e =
          at k l false e ∙ b.cells k l ∙ sym (ap (λ (t : Bool). cond t (F k l) 0) (still-sooner i j k l e))

      low : (k l : ℕ) (t : Bool) → (eqb k i && eqb l j) ≡ t → number_at after k l ≤ 1_000_000_000
      low k l true e = omega (arith, at k l true e)
      low k l false e = omega (arith, at k l false e, b.small k l)

  pub next : (runs : Runs) (i e : ℕ) → e ≡ motifs r + 1 → Begun F (number_at runs) i e → Begun F (number_at runs) (i + 1) (i + 1)
  next runs i e end b = record { cells = λ k l. b.cells k l ∙ either_way (sooner i e k l) (sooner (i + 1) (i + 1) k l) (F k l) (go k l (run_of r k l) refl); small = b.small }
    where
      go : (k l : ℕ) (t : Bool) → run_of r k l ≡ t → (sooner i e k l ≡ sooner (i + 1) (i + 1) k l) ⊎ (F k l ≡ 0)
      go k l true h = inl (grind (arith, nat_tests))
      go k l false h = inr (no_run W n r k l (λ some le within. let z : ◌≡◌ {A = ℕ} 0 1 = grind (arith, nat_tests) in omega arith))

  pub all : (runs : Runs) (e : ℕ) → motifs r < e → Begun F (number_at runs) e e → RunsWeighed F (Ok runs)
  all runs e end b = (same, λ i j. omega (arith, same i j, b.small i j))
    where
      same : (i j : ℕ) → number_at runs i j ≡ F i j
      same i j = b.cells i j ∙ either_way (sooner e e i j) true (F i j) (⊎_elim (λ lt. inl (grind (arith, nat_tests))) (λ ge. inr (no_run W n r i j (λ some le within. omega arith))) (cases_lt i e))
