-- A chapter written out as a job: its motifs, its rules, its boxes and its marks, each line ended by byte 10.
use Rattle.std.specs.Prelude.{ℕ, zero, suc, List, [], ◌∷◌, ◌++◌, map, length, take, drop, slice_index_or}
use Rattle.entry.specs.declared.mark.Mark.{Mark}
use Rattle.text.specs.Pages.{Page, motif_names_in}
use Rattle.writing.specs.Breaks.{ended}
use Rattle.writing.specs.Lines.{boxes_line, mark_line}
use Rattle.writing.specs.Motifs.{motif_line}
use Rattle.writing.specs.Rules.{rule_line}

-- `cut n cs`         codes cut into pieces of 33, the last as long as what is left, at most n pieces
abbrev pub cut : ℕ → List ℕ → List (List ℕ)
cut zero cs = []
cut (suc n) [] = []
cut (suc n) (c ∷ cs) = take 33 (c ∷ cs) ∷ cut n (drop 33 (c ∷ cs))

-- `pieces cs`        all of them; 33 codes fit a line of 200 bytes, whichever they are
abbrev pub pieces : List ℕ → List (List ℕ)
pieces cs = cut (length cs) cs

-- `mark_of names m`   the line of a mark, where the motif k has the name at k
abbrev pub mark_of : List (List ℕ) → Mark → List ℕ
mark_of names m = mark_line (slice_index_or names m.motif []) m.start m.end

abbrev pub motif_lines : Page → List (List ℕ)
motif_lines p = map motif_line p.motifs

abbrev pub rule_lines : Page → List (List ℕ)
rule_lines p = map (rule_line (motif_names_in p)) p.rules

abbrev pub boxes_lines : Page → List (List ℕ)
boxes_lines p = map boxes_line (pieces p.row)

abbrev pub mark_lines : Page → List (List ℕ)
mark_lines p = map (mark_of (motif_names_in p)) p.marks

-- `chapter_lines p`   motifs come before the rules and marks that name them
abbrev pub chapter_lines : Page → List (List ℕ)
chapter_lines p = motif_lines p ++ (rule_lines p ++ (boxes_lines p ++ mark_lines p))

abbrev pub chapter_text : Page → List ℕ
chapter_text p = ended (chapter_lines p)
