-- The walk over the runs of a text finds the first longest run that is not sound.
use Rattle.std.proofs.Common.{◌≡◌, ℕ, ◌+◌, ◌-◌, ◌<◌, ◌≤◌, Bool, true, false, not, ◌&&◌, eqb, List, [], ◌∷◌, ◌++◌, length, get_or, drop, Option, MatchOption, sym, refl, ap, ◌∙◌, subst, inl, inr, append_assoc, arith}
use Rattle.std.proofs.lemmas.List.{append-nil, drop-drop, get_or-drop, length-drop}
use Rattle.std.proofs.lemmas.List.Edits.{between_more, between_none, length-between}
use Rattle.std.proofs.lemmas.List.Splits.{length-slice_split}
use Rattle.std.proofs.lemmas.Bool.{and_cases, and_parts, both_ways, cases_lt, cases_order, cond_both, eqb-false, eqb-true, not-false, not-true}
use Rattle.std.specs.List.{between, onto_first}
use Rattle.refusal.specs.Checks.{refuse}
use Rattle.word.specs.Longest.{AllSound, FirstAt, Run}
use Rattle.word.specs.Runs.{fault_from, first_fault_of, runs}

-- the runs, with bytes put before the first
abbrev begun : List ℕ → List (List ℕ) → List (List ℕ)
begun c [] = c ∷ []
begun c (r ∷ rs) = (c ++ r) ∷ rs

begun_none : (rs : List (List ℕ)) → 0 < length rs → begun [] rs ≡ rs
begun_none [] h = absurd (omega arith)
begun_none (r ∷ rs) h = refl

begun-onto : (c : List ℕ) (b : ℕ) (rs : List (List ℕ)) → begun c (onto_first b rs) ≡ begun (c ++ b ∷ []) rs
begun-onto c b [] = refl
begun-onto c b (r ∷ rs) = ap (λ x. x ∷ rs) (sym (append_assoc c (b ∷ []) r))

module _ (part : ℕ → Bool) (w : List ℕ) where
  some-runs : (v : List ℕ) → 0 < length (runs part v)
  some-runs v = omega (arith, length-slice_split (λ b. not (part b)) v)

  -- the bytes from `from` to `to` are r: bytes of the sort, between two that are not
  record Piece (from : ℕ) (r : List ℕ) (to : ℕ) : Type 0 where
    ends : to ≡ from + length r
    within : to ≤ length w
    bytes : between from to w ≡ r
    run : (k : ℕ) → from ≤ k → k < to → part (get_or w k 0) ≡ true
    before : (k : ℕ) → k + 1 ≡ from → part (get_or w k 0) ≡ false
    behind : to < length w → part (get_or w to 0) ≡ false

  -- the text from `from` on is cut into pieces, with one byte behind each
  abbrev Cut : ℕ → List (List ℕ) → Type 0
  Cut from [] = from ≡ length w + 1
  Cut from (r ∷ rs) = (to : ℕ) × Piece from r to × Cut (to + 1) rs

  -- the bytes from `from` to `at` are of the sort, and v follows
  record Inside (from at : ℕ) (v : List ℕ) : Type 0 where
    left : drop at w ≡ v
    up : from ≤ at
    within : at ≤ length w
    run : (k : ℕ) → from ≤ k → k < at → part (get_or w k 0) ≡ true
    before : (k : ℕ) → k + 1 ≡ from → part (get_or w k 0) ≡ false

  whole : (v : List ℕ) (from at : ℕ) → Inside from at v → (at < length w → part (get_or w at 0) ≡ false) → Piece from (between from at w) at
  whole v from at s h = record { ends = omega (arith, length-between w from at s.within, s.up); within = s.within; bytes = refl; run = s.run; before = s.before; behind = h }

  cut : (v : List ℕ) (from at : ℕ) → Inside from at v → Cut from (begun (between from at w) (runs part v))
  cut [] from at s =
      let end : at ≡ length w = omega (arith, s.within, ap length s.left, length-drop at w) in
      subst (λ x. Cut from (x ∷ [])) (sym (append-nil (between from at w))) (at, whole [] from at s (λ h. absurd (omega arith)), omega arith)
  cut (b ∷ v) from at s =
      let c = between from at w in
      let rs = runs part v in
      let lt : at < length w = omega (arith, ap length s.left, length-drop at w) in
      let here : get_or w at 0 ≡ b = ap (λ x. get_or w x 0) (omega arith) ∙ sym (get_or-drop at w 0 0) ∙ ap (λ x. get_or x 0 0) s.left in
      let later : drop (at + 1) w ≡ v = sym (drop-drop 1 at w) ∙ ap (drop 1) s.left in
      cond_both (not (part b)) ([] ∷ rs) (onto_first b rs) (λ x. Cut from (begun c x))
      (λ e.
      let gap : part (get_or w at 0) ≡ false = ap part here ∙ not-true (part b) e in
      let on : Inside (at + 1) (at + 1) v = record { left = later; up = omega arith; within = omega arith; run = λ k g l. absurd (omega arith); before = λ k z. ap (λ x. part (get_or w x 0)) (omega arith) ∙ gap } in
      subst (λ x. Cut from (x ∷ rs)) (sym (append-nil c)) (at, whole (b ∷ v) from at s (λ h. gap), subst (Cut (at + 1)) (ap (λ x. begun x rs) (between_none w (at + 1)) ∙ begun_none rs (some-runs v)) (cut v (at + 1) (at + 1) on)))
      (λ e.
      let of : part (get_or w at 0) ≡ true = ap part here ∙ not-false (part b) e in
      let on : Inside from (at + 1) v = record { left = later; up = omega (arith, s.up); within = omega arith; run = λ k g l. elim (cases_lt k at) [ inl h ↦ s.run k g h | inr h ↦ ap (λ x. part (get_or w x 0)) (omega arith) ∙ of ]; before = s.before } in
      subst (Cut from) (sym (begun-onto c b rs)) (subst (λ x. Cut from (begun x rs)) (between_more w from at 0 s.up lt ∙ ap (λ x. c ++ x ∷ []) here) (cut v from (at + 1) on)))

  cut_all : Cut 0 (runs part w)
  cut_all = subst (Cut 0) (ap (λ x. begun x (runs part w)) (between_none w 0) ∙ begun_none (runs part w) (some-runs w)) (cut w 0 0 (record { left = refl; up = omega arith; within = omega arith; run = λ k g l. absurd (omega arith); before = λ k z. absurd (omega arith) }))

  same_end : (a e f : ℕ) → Run part w a e → Run part w a f → e ≡ f
  same_end a e f x y =
      elim (cases_order e f) [
        | inl h ↦ h
        | inr (inl h) ↦ absurd (both_ways (part (get_or w e 0)) (x.behind (omega (arith, y.within))) (y.run e (omega (arith, x.some)) h))
        | inr (inr h) ↦ absurd (both_ways (part (get_or w f 0)) (y.behind (omega (arith, x.within))) (x.run f (omega (arith, y.some)) h))
      ]

  piece_run : (from to : ℕ) (r : List ℕ) → Piece from r to → from < to → Run part w from to
  piece_run from to r p h = record { some = h; within = p.within; run = p.run; before = p.before; behind = p.behind }

  module _ (sound : List ℕ → Bool) where
    -- every run that begins before i is sound
    Good : ℕ → Type 0
    Good i = (a e : ℕ) → a < i → Run part w a e → sound (between a e w) ≡ true

    Verdict : Option ℕ → Type 0
    Verdict o = MatchOption o (AllSound part sound w) (λ p. FirstAt part sound w p)

    -- the runs up to the end of a piece are sound where it is empty or sound
    more : (from to : ℕ) (r : List ℕ) → Piece from r to → Good from → (from < to → sound r ≡ true) → Good (to + 1)
    unfolding Good
    more from to r p good s a e lt x =
        elim (cases_order a from) [
          | inl h ↦ (elim (cases_lt from to) [
            | inl some ↦
                let x' : Run part w from e = subst (λ b. Run part w b e) h x in
                subst (λ b. sound (between b e w) ≡ true) (sym h) (subst (λ f. sound (between from f w) ≡ true) (same_end from to e (piece_run from to r p some) x') (ap sound p.bytes ∙ s some))
            | inr none ↦ absurd (both_ways (part (get_or w to 0)) (p.behind (omega (arith, x.some, x.within, p.ends))) (x.run to (omega (arith, p.ends)) (omega (arith, x.some, p.ends))))
          ])
          | inr (inl h) ↦ good a e h x
          | inr (inr h) ↦ absurd (both_ways (part (get_or w (a - 1) 0)) (x.before (a - 1) (omega arith)) (p.run (a - 1) (omega arith) (omega arith)))
        ]

    verdict : (rs : List (List ℕ)) (from : ℕ) → Cut from rs → Good from → Verdict (fault_from sound from rs)
    unfolding Good Verdict
    verdict [] from c good = λ a e x. good a e (omega (arith, x.some, x.within, c)) x
    verdict (r ∷ rs) from c good =
        let p = c.1 in
        elim (not (eqb (length r) 0) && not (sound r)) as (λ t. (not (eqb (length r) 0) && not (sound r)) ≡ t → Verdict (refuse t from (fault_from sound (from + length r + 1) rs))) [
          | true ↦ (λ t.
              let k = and_parts (not (eqb (length r) 0)) (not (sound r)) t in
              let some : length r ≡ 0 → ⊥ = eqb-false (length r) 0 (not-true (eqb (length r) 0) k.0) in
              record { fault = (c.0, piece_run from c.0 r p (omega (arith, p.ends)), ap sound p.bytes ∙ not-true (sound r) k.1); first = λ a lt f. both_ways (sound (between a f.0 w)) f.2 (good a f.0 lt f.1) })
          | false ↦ (λ t. subst (λ n. Verdict (fault_from sound n rs)) (omega (arith, p.ends)) (verdict rs (c.0 + 1) c.2 (more from c.0 r p good (λ h. elim (and_cases (not (eqb (length r) 0)) (not (sound r)) t) [
            | inl z ↦ (let none : length r ≡ 0 = eqb-true (length r) 0 (not-false (eqb (length r) 0) z) in absurd (omega (arith, p.ends)))
            | inr n ↦ not-false (sound r) n
          ]))))
        ] refl

pub first_run : (part : ℕ → Bool) (sound : List ℕ → Bool) (w : List ℕ) → MatchOption (first_fault_of part sound w) (AllSound part sound w) (λ p. FirstAt part sound w p)
unfolding Good Verdict
first_run part sound w = verdict part w sound (runs part w) 0 (cut_all part w) (λ a e lt x. absurd (omega arith))
