-- Stretches and the numbers of a strip.
use Rattle.std.proofs.Common.{◌≡◌, ℕ, zero, suc, ◌+◌, ◌-◌, ◌*◌, ◌/◌, ◌<◌, ◌≤◌, min, List, [], ◌∷◌, ◌++◌, length, get_or, take, drop, sym, refl, ap, ◌∙◌, arith}
use mathlib.Core.List.{reverse}
use Rattle.std.proofs.lemmas.List.{append_assoc, get_or-drop, get_or-reverse, get_or-take, length-reverse, length-take, length-take-le, take_more}
use Rattle.std.proofs.lemmas.List.Concat.{flat_map-append}
use Rattle.std.proofs.Math.Seq.{take-nil}
use Rattle.std.specs.Simd.{first_chunks}
use Rattle.show.specs.Ends.{end_in, start_in}
use Rattle.show.specs.Numbers.{numbers}
use Rattle.show.specs.Stretches.{end_of, start_of}
use Rattle.show.specs.declared.stretch.Stretch.{Stretch}

pub numbers-start : (ss : List Stretch) (k : ℕ) (d : Stretch) → k < length ss → start_of (numbers ss) k ≡ (get_or ss k d).start
numbers-start [] k d h = absurd (omega arith)
numbers-start (s ∷ ss) zero d h = refl
numbers-start (s ∷ ss) (suc k) d h =
    let e : 2 * suc k ≡ suc (suc (2 * k)) = omega arith in
    ap (λ j. get_or (numbers (s ∷ ss)) j 0) e ∙ numbers-start ss k d (omega arith)

pub numbers-end : (ss : List Stretch) (k : ℕ) (d : Stretch) → k < length ss → end_of (numbers ss) k ≡ (get_or ss k d).end
numbers-end [] k d h = absurd (omega arith)
numbers-end (s ∷ ss) zero d h = refl
numbers-end (s ∷ ss) (suc k) d h =
    let e : 2 * suc k + 1 ≡ suc (suc (2 * k + 1)) = omega arith in
    ap (λ j. get_or (numbers (s ∷ ss)) j 0) e ∙ numbers-end ss k d (omega arith)

pub numbers-take : (m : ℕ) (ss : List Stretch) → numbers (take m ss) ≡ take (2 * m) (numbers ss)
numbers-take zero ss = refl
numbers-take (suc m) [] = sym (take-nil (2 * suc m))
numbers-take (suc m) (s ∷ ss) =
    let e : suc (suc (2 * m)) ≡ 2 * suc m = omega arith in
    ap (λ t. s.start ∷ s.end ∷ t) (numbers-take m ss) ∙ ap (λ n. take n (numbers (s ∷ ss))) e

-- a pair of a strip has two numbers of it
pub pair-at : (n : ℕ) (xs : List ℕ) (k j : ℕ) (d : List ℕ) → k < n → j < 2 → get_or (get_or (first_chunks 2 n xs) k d) j 0 ≡ get_or xs (2 * k + j) 0
pair-at zero xs k j d h i = absurd (omega arith)
pair-at (suc n) xs zero j d h i =
    let e : j ≡ 2 * 0 + j = omega arith in
    get_or-take 2 xs j 0 i ∙ ap (λ k. get_or xs k 0) e
pair-at (suc n) xs (suc k) j d h i =
    let e : 2 + (2 * k + j) ≡ 2 * suc k + j = omega arith in
    pair-at n (drop 2 xs) k j d (omega arith) i ∙ get_or-drop 2 xs (2 * k + j) 0 ∙ ap (λ k. get_or xs k 0) e

pub take_pair : (xs : List ℕ) (i : ℕ) → 2 * i + 1 < length xs → take (2 * (i + 1)) xs ≡ take (2 * i) xs ++ get_or xs (2 * i) 0 ∷ get_or xs (2 * i + 1) 0 ∷ []
take_pair xs i h =
    let e : 2 * (i + 1) ≡ 2 * i + 1 + 1 = omega arith in
    ap (λ n. take n xs) e
    ∙ take_more xs (2 * i + 1) 0 h
    ∙ ap (λ t. t ++ get_or xs (2 * i + 1) 0 ∷ []) (take_more xs (2 * i) 0 (omega arith))
    ∙ append_assoc (take (2 * i) xs) (get_or xs (2 * i) 0 ∷ []) (get_or xs (2 * i + 1) 0 ∷ [])

module _ (ss : List Stretch) (n k : ℕ) (s d : Stretch) (h : k < length ss) (e : s ≡ get_or ss k d) where
  pub start-at : start_of (numbers ss) k ≡ s.start
  start-at = numbers-start ss k d h ∙ ap (λ x. x.start) (sym e)

  pub end-at : end_of (numbers ss) k ≡ s.end
  end-at = numbers-end ss k d h ∙ ap (λ x. x.end) (sym e)

  -- where the stretch ends and starts in an ink of n boxes
  pub end_in-at : end_in (numbers ss) n k ≡ min s.end n
  end_in-at = ap (λ x. min x n) end-at

  pub start_in-at : start_in (numbers ss) n k ≡ min s.start (min s.end n)
  start_in-at = ap (λ x. min x (end_in (numbers ss) n k)) start-at ∙ ap (min s.start) end_in-at

-- the same of what the code cuts to an ink of n boxes, out of a slice of the first m stretches
pub record Cut (ss : List Stretch) (n k : ℕ) (r : Stretch) : Type 0 where
  pub start : r.start ≡ start_in (numbers ss) n k
  pub end : r.end ≡ end_in (numbers ss) n k
  pub ordered : r.start ≤ r.end
  pub within : r.end ≤ n

pub cut_of : (ss : List Stretch) (m n k : ℕ) (s d r : Stretch) → k < length (take m ss) → s ≡ get_or (take m ss) k d → r.start ≡ min s.start (min s.end n) → r.end ≡ min s.end n → Cut ss n k r
cut_of ss m n k s d r h e es ee =
    let inside : k < length ss = omega (arith, length-take m ss) in
    let here : s ≡ get_or ss k d = e ∙ get_or-take m ss k d (omega (arith, length-take m ss)) in
    record {
      start = es ∙ sym (start_in-at ss n k s d inside here);
      end = ee ∙ sym (end_in-at ss n k s d inside here);
      ordered = omega (arith, es, ee);
      within = omega (arith, ee);
    }

pub cut-at : (ss xs : List Stretch) (m n k : ℕ) (d r : Stretch) → xs ≡ take m ss → k < length xs → r.start ≡ min (get_or xs k d).start (min (get_or xs k d).end n) → r.end ≡ min (get_or xs k d).end n → Cut ss n k r
cut-at ss xs m n k d r same h es ee =
    cut_of ss m n k (get_or xs k d) d r (omega (arith, ap length same)) (ap (λ ys. get_or ys k d) same) es ee

-- the stretch that comes k-th from the end
module _ (ss : List Stretch) (k : ℕ) (s : Stretch) (turn : (k < length (reverse ss)) × (s ≡ get_or (reverse ss) k s)) where
  pub within_turns : k < length ss
  within_turns = omega (arith, turn.0, length-reverse ss)

  pub from_end : s ≡ get_or ss (length ss - 1 - k) s
  from_end = turn.1 ∙ get_or-reverse ss k s within_turns

pub numbers-push : (ss : List Stretch) (s : Stretch) → numbers (ss ++ s ∷ []) ≡ numbers ss ++ (s.start ∷ s.end ∷ [])
numbers-push ss s = flat_map-append (λ r. r.start ∷ r.end ∷ []) ss (s ∷ [])

-- the next pair of a strip, behind the stretches before it
pub front_more : (strip : List ℕ) (pairs : List (List ℕ)) (m i : ℕ) (ss : List Stretch) (s : Stretch) → pairs ≡ first_chunks 2 (length strip / 2) strip → length pairs ≡ length strip / 2 → 2 * m ≤ length strip → i < length (take m pairs) → numbers ss ≡ take (2 * i) strip → s.start ≡ get_or (get_or (take m pairs) i []) 0 0 → s.end ≡ get_or (get_or (take m pairs) i []) 1 0 → numbers (ss ++ s ∷ []) ≡ take (2 * (i + 1)) strip
front_more strip pairs m i ss s e long fit h so es ee =
    let n = length strip / 2 in
    let few : m ≤ length pairs = omega arith in
    let i-few : i < m = omega (arith, length-take-le m pairs few) in
    let i-in : i < n = omega arith in
    let pair : get_or (take m pairs) i [] ≡ get_or (first_chunks 2 n strip) i [] = get_or-take m pairs i [] i-few ∙ ap (λ ps. get_or ps i []) e in
    let zero-more : 2 * i + 0 ≡ 2 * i = omega arith in
    let start : s.start ≡ get_or strip (2 * i) 0 = es ∙ ap (λ p. get_or p 0 0) pair ∙ pair-at n strip i 0 [] i-in (omega arith) ∙ ap (λ j. get_or strip j 0) zero-more in
    let end : s.end ≡ get_or strip (2 * i + 1) 0 = ee ∙ ap (λ p. get_or p 1 0) pair ∙ pair-at n strip i 1 [] i-in (omega arith) in
    numbers-push ss s
    ∙ ap (λ t. t ++ (s.start ∷ s.end ∷ [])) so
    ∙ ap (λ x. take (2 * i) strip ++ (x ∷ s.end ∷ [])) start
    ∙ ap (λ x. take (2 * i) strip ++ (get_or strip (2 * i) 0 ∷ x ∷ [])) end
    ∙ sym (take_pair strip i (omega arith))
