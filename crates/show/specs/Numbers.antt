-- Stretches as a strip has them.
use Rattle.std.specs.Prelude.{ℕ, List, [], ◌∷◌}
use Rattle.std.specs.List.{flat_map}
use Rattle.show.specs.declared.stretch.Stretch.{Stretch}

-- `numbers ss`      the start and the end of each stretch
abbrev pub numbers : List Stretch → List ℕ
numbers ss = flat_map (λ s. s.start ∷ s.end ∷ []) ss
