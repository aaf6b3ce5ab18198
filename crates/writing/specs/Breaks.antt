-- Lines ended by byte 10, and parted there again.
use Rattle.std.specs.Prelude.{◌≡◌, ℕ, ◌≤◌, true, List, [], ◌∷◌, ◌++◌}
use Rattle.std.specs.List.{AllByRecursion}
use Rattle.entry.specs.Names.{is_name}
use Rattle.parts.specs.Parts.{parts, tally}
use Rattle.text.specs.Pages.{MotifEntry}
use Rattle.writing.specs.Lines.{Codes, boxes_line, mark_line}
use Rattle.writing.specs.Motifs.{LawfulMotif, motif_line}

-- `ended ls`       the lines, each ended by byte 10
abbrev pub ended : List (List ℕ) → List ℕ
ended [] = []
ended (l ∷ ls) = l ++ 10 ∷ ended ls

-- `Whole l`        no byte 10 stands in the line
abbrev pub Whole : List ℕ → Type 0
Whole l = tally 10 l ≡ 0

-- written lines are whole, and whole lines are parted as they were ended, with an empty one behind the last byte 10
pub record Breaks : Type 0 where
  pub boxes_whole : (c : ℕ) (cs : List ℕ) → Codes (c ∷ cs) → Whole (boxes_line (c ∷ cs))
  pub mark_whole : (name : List ℕ) (start end : ℕ) → is_name name ≡ true → start ≤ 20000 → end ≤ 20000 → Whole (mark_line name start end)
  pub motif_whole : (m : MotifEntry) → LawfulMotif m → Whole (motif_line m)
  pub lines_parted : (ls : List (List ℕ)) → AllByRecursion Whole ls → parts 10 (ended ls) ≡ ls ++ [] ∷ []
