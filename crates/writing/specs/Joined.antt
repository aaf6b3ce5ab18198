-- Texts joined with one byte between each two: words with spaces, fields with commas.
use Rattle.std.specs.Prelude.{ℕ, List, [], ◌∷◌, ◌++◌}

-- `behind b ws`    the texts, each behind a byte b
abbrev pub behind : ℕ → List (List ℕ) → List ℕ
behind b [] = []
behind b (w ∷ ws) = b ∷ (w ++ behind b ws)

-- `joined b ws`    the texts, with one byte b between each two
abbrev pub joined : ℕ → List (List ℕ) → List ℕ
joined b [] = []
joined b (w ∷ ws) = w ++ behind b ws
