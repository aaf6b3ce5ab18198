-- Words by their places: a run is a longest one, and the first fault is that of the first run that is not sound.
use Rattle.std.specs.Prelude.{◌≡◌, ℕ, ◌+◌, ◌<◌, ◌≤◌, Bool, true, false, List, length, MatchOption, slice_index}
use Rattle.std.specs.List.{between}
use Rattle.word.specs.Runs.{first_fault_of}

-- the bytes a to e - 1 of the text are a longest run of bytes of the sort
pub record Run (part : ℕ → Bool) (w : List ℕ) (a e : ℕ) : Type 0 where
  pub some : a < e
  pub within : e ≤ length w
  pub run : (k : ℕ) → a ≤ k → k < e → part (slice_index w k) ≡ true
  pub before : (k : ℕ) → k + 1 ≡ a → part (slice_index w k) ≡ false
  pub behind : e < length w → part (slice_index w e) ≡ false

-- a run that is not sound begins at p
abbrev pub FaultAt : (ℕ → Bool) → (List ℕ → Bool) → List ℕ → ℕ → Type 0
FaultAt part sound w p = (e : ℕ) × Run part w p e × (sound (between p e w) ≡ false)

pub record FirstAt (part : ℕ → Bool) (sound : List ℕ → Bool) (w : List ℕ) (p : ℕ) : Type 0 where
  pub fault : FaultAt part sound w p
  pub first : (q : ℕ) → q < p → FaultAt part sound w q → ⊥

abbrev pub AllSound : (ℕ → Bool) → (List ℕ → Bool) → List ℕ → Type 0
AllSound part sound w = (a e : ℕ) → Run part w a e → sound (between a e w) ≡ true

abbrev pub RunsLaw : Type 0
RunsLaw = (part : ℕ → Bool) (sound : List ℕ → Bool) (w : List ℕ) → MatchOption (first_fault_of part sound w) (AllSound part sound w) (λ p. FirstAt part sound w p)
