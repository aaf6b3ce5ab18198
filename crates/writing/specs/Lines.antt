-- Lines of boxes and of marks as they are written, and what the reader makes of them.
use Rattle.std.specs.Prelude.{◌≡◌, ℕ, ◌+◌, ◌<◌, ◌≤◌, true, List, [], ◌∷◌, map, length, pos, Some, None, Ok}
use Rattle.std.specs.List.{AllByRecursion}
use Rattle.entry.specs.Names.{is_name}
use Rattle.line.specs.Lines.{line_fault}
use Rattle.line.specs.Said.{boxes, line_says, mark}
use Rattle.entry.specs.Named.{number_in}
use Rattle.text.specs.Pages.{Page, motif_names_in}
use Rattle.text.specs.Taking.{codes_in, with_line_taken, with_boxes, with_mark}
use Rattle.writing.specs.Joined.{joined}
use Rattle.writing.specs.Numerals.{numbers, word_of}

-- `line_of a fs`    the line with the letter a and the fields fs
abbrev pub line_of : ℕ → List (List ℕ) → List ℕ
line_of a fs = a ∷ 44 ∷ joined 44 fs

-- `codes_field cs`  codes, with one space between each two
abbrev pub codes_field : List ℕ → List ℕ
codes_field cs = numbers (map pos cs)

-- `b,CODES`
abbrev pub boxes_line : List ℕ → List ℕ
boxes_line cs = line_of 98 (codes_field cs ∷ [])

-- `s,NAME,START,END`
abbrev pub mark_line : List ℕ → ℕ → ℕ → List ℕ
mark_line name start end = line_of 115 (name ∷ word_of (pos start) ∷ word_of (pos end) ∷ [])

-- codes have at most 16 bits
abbrev pub Codes : List ℕ → Type 0
Codes cs = AllByRecursion (λ c. c ≤ 65535) cs

-- a line of boxes has no fault, and says its codes
pub record BoxesRead (cs : List ℕ) : Type 0 where
  pub sound : line_fault (boxes_line cs) ≡ None
  pub says : line_says (boxes_line cs) ≡ boxes (codes_field cs)
  pub codes : codes_in (codes_field cs) ≡ cs

pub record MarkRead (name : List ℕ) (start end : ℕ) : Type 0 where
  pub sound : line_fault (mark_line name start end) ≡ None
  pub says : line_says (mark_line name start end) ≡ mark name start end

-- a line of boxes that is not too long is taken into a page that has room for them
abbrev pub BoxesTaken : List ℕ → Type 0
BoxesTaken cs = (p : Page) → length (boxes_line cs) ≤ 200 → length p.row + length cs ≤ 20000 → with_line_taken p (boxes_line cs) ≡ Ok (with_boxes p cs)

-- a line of a mark is taken into a page that has its motif and room for the mark
abbrev pub MarkTaken : List ℕ → ℕ → ℕ → Type 0
MarkTaken name start end =
    (p : Page) (k : ℕ) → length (mark_line name start end) ≤ 200 → number_in name (motif_names_in p) ≡ Some k → length p.marks < 4000 → with_line_taken p (mark_line name start end) ≡ Ok (with_mark p k start end)

pub record Lines : Type 0 where
  pub boxes_read : (c : ℕ) (cs : List ℕ) → Codes (c ∷ cs) → BoxesRead (c ∷ cs)
  pub boxes_taken : (c : ℕ) (cs : List ℕ) → Codes (c ∷ cs) → BoxesTaken (c ∷ cs)
  pub mark_read : (name : List ℕ) (start end : ℕ) → is_name name ≡ true → start ≤ 20000 → end ≤ 20000 → MarkRead name start end
  pub mark_taken : (name : List ℕ) (start end : ℕ) → is_name name ≡ true → start ≤ 20000 → end ≤ 20000 → MarkTaken name start end
