-- A find as a list of stretches, and on a strip.
use Rattle.std.specs.Prelude.{ℕ, ◌-◌, List, [], ◌∷◌, ◌++◌, length, drop, replicate, Some, None, Option}
use Rattle.walk.specs.Places as W
use Rattle.walk.specs.declared.letter.Letter.{Letter}
use Rattle.walk.specs.declared.letter.Letter.TheVariants.{L, R}
use Rattle.sheet_model.specs.Strip.{numbers_of, stretches_of}

-- stretches with one more on a letter's side
abbrev pub grown_list : Letter → List W.Stretch → W.Stretch → List W.Stretch
grown_list L xs s = s ∷ xs
grown_list R xs s = xs ++ s ∷ []

-- the stretches of a find, none where there is no find
abbrev pub parts_of : Option W.Placement → List W.Stretch
parts_of None = []
parts_of (Some p) = stretches_of p

-- a strip with stretches on it
abbrev pub written_list : List W.Stretch → List ℕ → List ℕ
written_list ss strip = numbers_of ss ++ (replicate (24 - length (numbers_of ss)) 0 ++ drop 24 strip)
