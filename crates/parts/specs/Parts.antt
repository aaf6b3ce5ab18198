-- A text in parts: lines at byte 10, fields at commas, words at spaces.
use Rattle.std.specs.Prelude.{◌≡◌, ℕ, ◌+◌, ◌<◌, ◌≤◌, cond, List, [], ◌∷◌, length, drop, ◌==◌, ◌≢◌, count_by, nat_le, slice_index}
use Rattle.std.specs.List.{slice_split}

-- `parts b w`      the parts of the text w between its bytes b, at least one
abbrev pub parts : ℕ → List ℕ → List (List ℕ)
parts b w = slice_split (λ x. x == b) w

-- `left b w i`     the parts from the place i on; behind the end there are none
abbrev pub left : ℕ → List ℕ → ℕ → List (List ℕ)
left b w i = cond (nat_le i (length w)) (parts b (drop i w)) []

-- `tally b w`      how often the byte b stands in the text w
abbrev pub tally : ℕ → List ℕ → ℕ
tally b w = count_by (λ x. x == b) w

-- `IsPart b w i e` the part of w that begins at i ends at e: at the next byte b, or with the text
pub record IsPart (b : ℕ) (w : List ℕ) (i e : ℕ) : Type 0 where
  pub from : i ≤ e
  pub within : e ≤ length w
  pub lacks : (k : ℕ) → i ≤ k → k < e → slice_index w k ≢ b
  pub ends : e < length w → slice_index w e ≡ b

-- a part, and the place in its text at which it begins
pub record Placed : Type 0 where
  pub at : ℕ
  pub bytes : List ℕ

-- `placed at ps`   the parts ps, of which the first begins at the place `at`
abbrev pub placed : ℕ → List (List ℕ) → List Placed
placed at [] = []
placed at (p ∷ ps) = record { at = at; bytes = p } ∷ placed (at + length p + 1) ps
