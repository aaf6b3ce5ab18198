-- How often a byte stands in a text, and how many parts that makes.
use Rattle.std.proofs.Common.{◌≡◌, ℕ, ◌+◌, ◌≤◌, cond, eqb, List, ◌∷◌, length, arith}
use Rattle.std.proofs.lemmas.List.Splits.{length-slice_split}
use Rattle.std.proofs.lemmas.List.Sums.{count_by-le-length, sum_by-cons}
use Rattle.parts.specs.Parts.{parts, tally}

pub tally-cons : (b x : ℕ) (w : List ℕ) → tally b (x ∷ w) ≡ tally b w + cond (eqb x b) 1 0
tally-cons b x w = omega (arith, sum_by-cons (λ y. cond (eqb y b) 1 0) x w)

pub length-parts : (b : ℕ) (w : List ℕ) → length (parts b w) ≡ tally b w + 1
length-parts b w = length-slice_split (λ x. eqb x b) w

pub tally-bound : (b : ℕ) (w : List ℕ) → tally b w ≤ length w
tally-bound b w = count_by-le-length (λ x. eqb x b) w
