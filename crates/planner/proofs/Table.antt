-- The planner's table: a write leaves what is known elsewhere, and what is known where it was made.
use Rattle.std.proofs.Common.{Some, None, Option, MatchOption, ◌≡◌, ℕ, ◌+◌, ◌-◌, ◌*◌, ◌<◌, ◌≤◌, true, false, ◌&&◌, eqb, [], sym, refl, subst, ⊎_elim, arith}
use Rattle.std.proofs.lemmas.Bool.{cases_lt}
use Rattle.std.proofs.lemmas.Bool.Decides.{nat_tests}
use Rattle.forecast.specs.declared.runs.Runs.{Runs}
use Rattle.forecast.specs.Runs.{Put, is_run, number_at}
use Rattle.walk.specs.declared.letter.Letter.TheVariants.{L, R}
use Rattle.planner.specs.declared.plan.Next.{Next}
use Rattle.planner.specs.Orders.{Terms}
use Rattle.planner.specs.Best.{Ahead, Least, Known, Rows, Row, most}
use Rattle.planner.specs.Ways.{Extends}
use Rattle.planner.proofs.Best.{led, whole}

-- the runs that a letter makes of one are in the rows before, or behind it in its own
pub ahead : (t : Terms) (costs : ℕ → ℕ → ℕ) (i j : ℕ) → 1 ≤ i → i ≤ j → j ≤ t.motifs → Rows t costs i → Row t costs i (j + 1) → Ahead t costs i j
ahead t costs i j some ordered within rows row L may = rows (i - 1) j (omega (arith, may.0)) (omega (arith, may.0)) (omega arith) within
ahead t costs i j some ordered within rows row R may = row (j + 1) (omega arith) may

pub ended : {t : Terms} {i j : ℕ} → i ≡ 1 → j ≡ t.motifs → Least t i j 0
ended e h = record { letters = []; best = whole e h; cost = refl }

module _ (before after : Runs) (i j x : ℕ) (put : Put i j x before after) where
  put_other : (k l : ℕ) → (eqb k i && eqb l j) ≡ false → number_at after k l ≡ number_at before k l
  put_other k l off = let here = put k l in grind (arith, nat_tests)

  put_here : is_run i j ≡ true → number_at after i j ≡ x
  put_here run = let here = put i j in grind (arith, nat_tests)

  module _ (t : Terms) where
    kept : (k l : ℕ) → (eqb k i && eqb l j) ≡ false → Known t (number_at before) k l → Known t (number_at after) k l
    kept k l off known =
        let same = put_other k l off in
        record { least = subst (Least t k l) (sym same) known.least; bound = omega (arith, same, known.bound) }

    pub rows_kept : Rows t (number_at before) i → Rows t (number_at after) i
    rows_kept rows k l some lt le within = kept k l (grind (arith, nat_tests)) (rows k l some lt le within)

    pub row_more : 1 ≤ i → i ≤ j → j ≤ t.motifs → t.motifs ≤ 12 → Least t i j x → x ≤ most * (i - 1 + (t.motifs - j)) → Row t (number_at before) i (j + 1) → Row t (number_at after) i j
    row_more some ordered within few least bound row l le end = ⊎_elim later here (cases_lt j l)
      where
        later : j < l → Known t (number_at after) i l
        later lt = kept i l (grind (arith, nat_tests)) (row l (omega arith) end)

        run : is_run i j ≡ true
        run = let j12 : j ≤ 12 = omega arith in grind (arith, nat_tests)

        here : l ≤ j → Known t (number_at after) i l
        here ge =
            let e : j ≡ l = omega arith in
            let is = put_here run in
            subst (Known t (number_at after) i) e (record { least = subst (Least t i j) (sym is) least; bound = omega (arith, is) })

pub rows_more : (t : Terms) (costs : ℕ → ℕ → ℕ) (first last : ℕ) → Rows t costs first → Row t costs first last → last ≤ first → Rows t costs (first + 1)
rows_more t costs first last rows row end i j some lt le within = ⊎_elim before here (cases_lt i first)
  where
    before : i < first → Known t costs i j
    before h = rows i j some h le within

    here : first ≤ i → Known t costs i j
    here h = let e : first ≡ i = omega arith in subst (λ x. Known t costs x j) e (row j (omega arith) within)

-- the price of the best way on, 0 where there is none, is the least price
pub least_of : (t : Terms) (costs : ℕ → ℕ → ℕ) (i j p : ℕ) (o : Option Next) → Ahead t costs i j → Extends t i j o → MatchOption o (p ≡ 0) (λ n. p ≡ n.price) → Least t i j p × (p ≤ most * (i - 1 + (t.motifs - j)))
least_of t costs i j p None next end is = (subst (Least t i j) (sym is) (ended end.0 end.1), omega arith)
least_of t costs i j p (Some n) next lead is = (subst (Least t i j) (sym is) (led t i j n.letter lead.0 (next n.letter lead.0.0).least), omega (arith, lead.1))
