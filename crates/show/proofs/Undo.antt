-- A show in the making: after each stretch, what was saved still undoes all that was painted.
use Rattle.std.proofs.Common.{◌≡◌, ℕ, zero, suc, ◌+◌, ◌-◌, ◌<◌, ◌≤◌, min, cond, ◌&&◌, ltb, leb, List, ◌++◌, length, get_or, take, drop, replicate, sym, refl, ap, ◌∙◌, ⊎_elim, add-one, arith}
use lib.Seq.{paste}
use Rattle.std.proofs.lemmas.List.Edits.{length-paste}
use Rattle.std.proofs.lemmas.List.{append_assoc, drop-take, length-drop, length-replicate, length-take-le, take_at, take_more, take-take}
use Rattle.std.proofs.lemmas.List.Sums.{sum_by_push}
use Rattle.std.specs.List.{sum_by}
use Rattle.std.proofs.lemmas.Bool.{cases_eq}
use Rattle.std.proofs.lemmas.Bool.Decides.{nat_tests}
use Rattle.show.proofs.Numbers.{end_in-at, start_in-at}
use Rattle.show.proofs.Paint.{back, painted_box}
use Rattle.show.specs.Ends.{start_in, kept_by, end_in, undone}
use Rattle.show.specs.Numbers.{numbers}
use Rattle.show.specs.declared.stretch.Stretch.{Stretch}
use Rattle.show.specs.Stretches.{Shown, boxes, covers, end_of, reads, start_of}

take_below : (d s : List ℕ) (at n : ℕ) → at + n ≤ length d → take at (paste d at s n) ≡ take at d
take_below d s at n h = ap (take at) (append_assoc (take at d) (take n s) (drop (at + n) d)) ∙ take_at (take at d) (take n s ++ drop (at + n) d) at (length-take-le at d (omega arith))

-- inside an ink of n boxes, the cut stretch covers what the stretch covers
cut : (s e n i : ℕ) → i < n → (leb (min s (min e n)) i && ltb i (min e n)) ≡ (leb s i && ltb i e)
cut s e n i h = grind (arith, nat_tests)

module _ (strip : List ℕ) where
  pub kept-le : (n k : ℕ) → kept_by strip n k ≤ boxes strip k
  kept-le n zero = omega arith
  kept-le n (suc k) = let t = kept-le n k in omega arith

  boxes-grow : (m k : ℕ) → k ≤ m → boxes strip k ≤ boxes strip m
  boxes-grow zero k h = let e : k ≡ 0 = omega arith in omega (arith, ap (boxes strip) e)
  boxes-grow (suc m) k h =
      ⊎_elim (λ same. omega (arith, ap (boxes strip) same)) (λ apart. let t = boxes-grow m k (omega arith) in omega arith) (cases_eq k (suc m))

  -- the bytes of a stretch have room where the bytes of all have
  pub has_room : (n m k : ℕ) → k < m → kept_by strip n k + (end_in strip n k - start_in strip n k) ≤ boxes strip m
  has_room n m k h = let t = kept-le n (suc k) in let g = boxes-grow m (suc k) (omega arith) in omega arith

  -- what is put back doesn't depend on saved bytes behind those of the first m stretches
  agree : (n m : ℕ) (s t xs : List ℕ) → take (kept_by strip n m) s ≡ take (kept_by strip n m) t → undone strip n s m xs ≡ undone strip n t m xs
  agree n zero s t xs h = refl
  agree n (suc m) s t xs h =
      let u = kept_by strip n m in
      let f = start_in strip n m in
      let w = end_in strip n m - f in
      let here : take w (drop u s) ≡ take w (drop u t) = sym (drop-take u w s) ∙ ap (drop u) h ∙ drop-take u w t in
      let front : take u s ≡ take u t = sym (take-take u (u + w) s (omega arith)) ∙ ap (take u) h ∙ take-take u (u + w) t (omega arith) in
      ap (λ z. undone strip n s m (take f xs ++ z ++ drop (f + w) xs)) here ∙ agree n m s t (paste xs f (drop u t) w) front

-- `width n s`         how many bytes a stretch saves of an ink of n boxes
abbrev pub width : ℕ → Stretch → ℕ
width n s = min s.end n - min s.start (min s.end n)

-- the bytes that the first stretches save are the sum of what each saves
pub kept-take : (ss : List Stretch) (n k : ℕ) → k ≤ length ss → sum_by (width n) (take k ss) ≡ kept_by (numbers ss) n k
kept-take ss n zero h = refl
kept-take ss n (suc k) h =
    let d : Stretch = record { start = 0; end = 0 } in
    let here : k < length ss = omega arith in
    ap (λ j. sum_by (width n) (take j ss)) (sym (add-one k))
    ∙ ap (sum_by (width n)) (take_more ss k d here)
    ∙ sum_by_push (width n) (take k ss) (get_or ss k d)
    ∙ omega (arith, kept-take ss n k (omega arith), end_in-at ss n k (get_or ss k d) d here refl, start_in-at ss n k (get_or ss k d) d here refl)

-- after k stretches on the ink xs
pub record Painting (strip : List ℕ) (k : ℕ) (xs ys saved : List ℕ) (at : ℕ) : Type 0 where
  pub counted : at ≡ kept_by strip (length xs) k
  pub shown : Shown strip k xs ys
  pub undoes : undone strip (length xs) saved k ys ≡ xs
  pub long : length ys ≡ length xs
  pub room : length saved ≡ 64

module _ (strip xs ys saved ys' saved' : List ℕ) (k f l at v : ℕ) (so : Painting strip k xs ys saved at) (ef : f ≡ start_in strip (length xs) k) (el : l ≡ end_in strip (length xs) k) where
  pub painting_on : v ≡ k + 1 → at + (l - f) ≤ 64 → ys' ≡ paste ys f (replicate (l - f) v) (l - f) → saved' ≡ paste saved at (drop f ys) (l - f) → Painting strip (k + 1) xs ys' saved' (at + (l - f))
  painting_on ev fits ey es =
      let n = length xs in
      let p : f ≤ l = omega arith in
      let q : l ≤ length ys = omega (arith, so.long) in
      let r : at + (l - f) ≤ length saved = omega (arith, so.room) in
      let next = add-one k in
      let gone : paste ys' f (drop at saved') (l - f) ≡ ys = let b = back ys saved f (l - f) at v (omega arith) r in cc in
      let below : take at saved' ≡ take at saved = ap (take at) es ∙ take_below saved (drop f ys) at (l - f) r in
      record {
        counted = let c = so.counted in cc;
        shown = λ i h.
            let box : get_or ys' i 0 ≡ cond (leb f i && ltb i l) v (get_or ys i 0) = ap (λ z. get_or z i 0) ey ∙ painted_box ys f l v i p q (omega (arith, so.long)) in
            let covered : (leb f i && ltb i l) ≡ covers strip k i = ap (λ x. leb x i && ltb i l) ef ∙ ap (λ x. leb (start_in strip n k) i && ltb i x) el ∙ cut (start_of strip k) (end_of strip k) n i h in
            box ∙ ap (λ t. cond t v (get_or ys i 0)) covered ∙ ap (λ x. cond (covers strip k i) x (get_or ys i 0)) ev ∙ ap (cond (covers strip k i) (k + 1)) (so.shown i h) ∙ sym (ap (λ j. reads strip j i (get_or xs i 0)) next);
        undoes =
            let counted = so.counted in
            let here : paste ys' (start_in strip n k) (drop (kept_by strip n k) saved') (end_in strip n k - start_in strip n k) ≡ ys = cc in
            let front : take (kept_by strip n k) saved' ≡ take (kept_by strip n k) saved = cc in
            ap (λ j. undone strip n saved' j ys') next ∙ ap (undone strip n saved' k) here ∙ agree strip n k saved' saved ys front ∙ so.undoes;
        long = ap length ey ∙ length-paste ys f (replicate (l - f) v) (l - f) (omega arith) (omega (arith, length-replicate (l - f) v)) ∙ so.long;
        room = ap length es ∙ length-paste saved at (drop f ys) (l - f) r (omega (arith, length-drop f ys)) ∙ so.room;
      }

-- putting the bytes of the last stretch back leaves the rest to those before it
pub back_on : (strip saved ys ys' zs : List ℕ) (n j k f l at : ℕ) → k ≡ j + 1 → at ≡ kept_by strip n k → f ≡ start_in strip n j → l ≡ end_in strip n j → ys' ≡ paste ys f (drop (at - (l - f)) saved) (l - f) → undone strip n saved k ys ≡ zs → (at - (l - f) ≡ kept_by strip n j) × (undone strip n saved j ys' ≡ zs)
back_on strip saved ys ys' zs n j k f l at next counted ef el ey so =
    let last : k ≡ suc j = next ∙ add-one j in
    let left : at - (l - f) ≡ kept_by strip n j = omega (arith, ap (kept_by strip n) last) in
    let here : ys' ≡ paste ys (start_in strip n j) (drop (kept_by strip n j) saved) (end_in strip n j - start_in strip n j) = cc in
    (left, ap (undone strip n saved j) here ∙ sym (ap (λ i. undone strip n saved i ys) last) ∙ so)

-- of the m stretches that the ink xs was shown with, the first are still to be undone
pub record Undoing (strip : List ℕ) (m left : ℕ) (saved xs ys : List ℕ) (at : ℕ) : Type 0 where
  pub counted : at ≡ kept_by strip (length xs) left
  pub same : undone strip (length xs) saved left ys ≡ undone strip (length xs) saved m xs
