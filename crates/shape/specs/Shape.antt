-- Shapes of texts, and what it means that a text has one.
use Rattle.std.specs.Prelude.{◌≡◌, ℕ, ◌≤◌, ◌⊎◌, List, [], ◌∷◌, ◌++◌, length, take}
use Rattle.shape.specs.declared.kinds.Kind.{Kind}
use Rattle.shape.specs.Kinds.{kind_of}

infixr 30 ◌then◌
infixr 25 ◌or◌
pub data Shape : Type 0 where
  -- no text
  never : Shape
  -- the empty text
  empty : Shape
  -- one byte of a kind
  one : Kind → Shape
  -- a text of the first shape, and right behind it one of the second
  ◌then◌ : Shape → Shape → Shape
  -- a text of either shape
  ◌or◌ : Shape → Shape → Shape
  -- any number of texts of the shape, one behind the other, also none
  many : Shape → Shape

-- the texts one behind the other
abbrev pub together : List (List ℕ) → List ℕ
together [] = []
together (u ∷ us) = u ++ together us

abbrev pub Each : (List ℕ → Type 0) → List (List ℕ) → Type 0
Each P [] = Unit {0}
Each P (u ∷ us) = P u × Each P us

-- the text has the shape
abbrev pub Fits : Shape → List ℕ → Type 0
Fits never w = ⊥
Fits empty w = w ≡ []
Fits (one k) w = (b : ℕ) × (w ≡ b ∷ []) × (kind_of b ≡ k)
Fits (r then s) w = (u : List ℕ) × (v : List ℕ) × (w ≡ u ++ v) × Fits r u × Fits s v
Fits (r or s) w = Fits r w ⊎ Fits s w
Fits (many r) w = (us : List (List ℕ)) × (w ≡ together us) × Each (Fits r) us

-- some continuation gives the text the shape
abbrev pub Completable : Shape → List ℕ → Type 0
Completable s u = (v : List ℕ) × Fits s (u ++ v)

-- the first p bytes are the longest beginning of the text that can be completed
pub record Longest (s : Shape) (w : List ℕ) (p : ℕ) : Type 0 where
  pub within : p ≤ length w
  pub can : Completable s (take p w)
  pub longest : (q : ℕ) → q ≤ length w → Completable s (take q w) → q ≤ p

-- the text does not have the shape, and its longest beginning that can be completed has p bytes
pub record Misshapen (s : Shape) (w : List ℕ) (p : ℕ) : Type 0 where
  pub broken : Fits s w → ⊥
  pub place : Longest s w p
