-- No part begins behind the end of its text.
use Rattle.std.proofs.Common.{◌≡◌, ℕ, ◌+◌, ◌≤◌, Bool, true, false, cond, eqb, List, [], ◌∷◌, length, sym, refl, subst, arith}
use Rattle.std.specs.List.{AllByRecursion, onto_first}
use Rattle.parts.specs.Parts.{left, parts, placed}
use Rattle.parts.proofs.Cuts.{left_all}

-- how far parts reach, each with the byte that ends it
extent : List (List ℕ) → ℕ
extent [] = 0
extent (p ∷ ps) = length p + 1 + extent ps

extent-more : (t : Bool) (x n : ℕ) (ps : List (List ℕ)) → extent ps ≡ n + 1 → extent (cond t ([] ∷ ps) (onto_first x ps)) ≡ n + 1 + 1
unfolding extent
extent-more true x n ps h = omega arith
extent-more false x n [] h = absurd (omega arith)
extent-more false x n (p ∷ ps) h = omega arith

extent-parts : (b : ℕ) (w : List ℕ) → extent (parts b w) ≡ length w + 1
unfolding extent
extent-parts b [] = refl
extent-parts b (x ∷ w) = omega (arith, extent-more (eqb x b) x (length w) (parts b w) (extent-parts b w))

placed_within : (at n : ℕ) (ps : List (List ℕ)) → at + extent ps ≤ n + 1 → AllByRecursion (λ p. p.at ≤ n) (placed at ps)
unfolding extent
placed_within at n [] h = tt
placed_within at n (p ∷ ps) h = (omega arith, placed_within (at + length p + 1) n ps (omega arith))

pub places_within : (b : ℕ) (w : List ℕ) → AllByRecursion (λ p. p.at ≤ length w) (placed 0 (left b w 0))
places_within b w =
    let all = placed_within 0 (length w) (parts b w) (omega (arith, extent-parts b w)) in
    subst (λ ps. AllByRecursion (λ p. p.at ≤ length w) (placed 0 ps)) (sym (left_all b w)) all
