-- Lines of motifs as they are written, and what the reader makes of them.
use Rattle.std.specs.Prelude.{◌≡◌, ℕ, ◌<◌, ◌≤◌, true, false, List, [], ◌∷◌, length, pos, None, Ok}
use Rattle.entry.specs.Names.{is_name}
use Rattle.entry.specs.Named.{taken}
use Rattle.line.specs.Lines.{line_fault}
use Rattle.line.specs.Said.{line_says, motif}
use Rattle.text.specs.Pages.{MotifEntry, Page, motif_names_in}
use Rattle.text.specs.Taking.{with_line_taken, with_motif}
use Rattle.writing.specs.Bodies.{LawfulBody, body_text}
use Rattle.writing.specs.Lines.{line_of}
use Rattle.writing.specs.Numerals.{word_of}

-- `m,NAME,WEIGHT,BODY`
abbrev pub motif_line : MotifEntry → List ℕ
motif_line m = line_of 109 (m.name ∷ word_of (pos m.weight) ∷ body_text m.body ∷ [])

-- a name, a weight of at most 16 bits, and a body or none
pub record LawfulMotif (m : MotifEntry) : Type 0 where
  pub named : is_name m.name ≡ true
  pub weighs : m.weight ≤ 65535
  pub body : LawfulBody m.body

-- a line of a motif has no fault, and says its name, weight and body
pub record MotifRead (m : MotifEntry) : Type 0 where
  pub sound : line_fault (motif_line m) ≡ None
  pub says : line_says (motif_line m) ≡ motif m.name m.weight (body_text m.body)

-- it is taken into a page that has no motif of its name yet, and room for it
abbrev pub MotifTaken : MotifEntry → Type 0
MotifTaken m =
    (p : Page) → length (motif_line m) ≤ 200 → taken m.name (motif_names_in p) ≡ false → length p.motifs < 16 → with_line_taken p (motif_line m) ≡ Ok (with_motif p m)

pub record Motifs : Type 0 where
  pub motif_read : (m : MotifEntry) → LawfulMotif m → MotifRead m
  pub motif_taken : (m : MotifEntry) → LawfulMotif m → MotifTaken m
