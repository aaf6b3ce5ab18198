-- Words of a text: its longest runs of bytes of one sort, and the place of the first that is not sound.
use Rattle.std.specs.Prelude.{ℕ, ◌+◌, Bool, not, ◌&&◌, List, [], ◌∷◌, length, None, Option, ◌==◌}
use Rattle.std.specs.List.{slice_split}
use Rattle.refusal.specs.Checks.{refuse}

-- a sort of bytes, and which runs of them are sound
pub record Sort : Type 0 where
  pub part : ℕ → Bool
  pub sound : List ℕ → Bool

-- `runs part w`    what stands between the bytes of w that are of another sort: its longest runs, and nothing where two such
-- bytes stand side by side
abbrev pub runs : (ℕ → Bool) → List ℕ → List (List ℕ)
runs part w = slice_split (λ b. not (part b)) w

-- `fault_from sound at rs`  the place of the first run of rs that is not sound, where the first of them begins at the place `at`
abbrev pub fault_from : (List ℕ → Bool) → ℕ → List (List ℕ) → Option ℕ
fault_from sound at [] = None
fault_from sound at (r ∷ rs) = refuse (not (length r == 0) && not (sound r)) at (fault_from sound (at + length r + 1) rs)

-- `first_fault_of part sound w`   the place of the first run that is not sound, if there is one
abbrev pub first_fault_of : (ℕ → Bool) → (List ℕ → Bool) → List ℕ → Option ℕ
first_fault_of part sound w = fault_from sound 0 (runs part w)
