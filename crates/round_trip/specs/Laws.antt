-- What every chapter keeps, and that it is read back from the job that it is written as.
use Rattle.std.specs.Prelude.{◌≡◌, ℕ, ◌<◌, ◌≤◌, true, List, length, None}
use Rattle.std.specs.List.{AllByRecursion}
use Rattle.entry.specs.declared.mark.Mark.{Mark}
use Rattle.book.specs.Entries.{distinct}
use Rattle.text.specs.Pages.{Page, motif_names_in, rule_names_in}
use Rattle.writing.specs.Lines.{Codes}
use Rattle.writing.specs.Motifs.{LawfulMotif}
use Rattle.writing.specs.Rules.{LawfulRule}
use Rattle.job.specs.Examples.{empty_page}
use Rattle.job.specs.Jobs.{job_read}
use Rattle.round_trip.specs.Chapters.{boxes_lines, chapter_lines, chapter_text, mark_lines}

-- a mark of one of `count` motifs; its start may lie behind its end
pub record LawfulMark (count : ℕ) (m : Mark) : Type 0 where
  pub known : m.motif < count
  pub starts : m.start ≤ 20000
  pub ends : m.end ≤ 20000

-- entries are lawful, names unique in their kind, and of each kind there are not too many
pub record LawfulPage (p : Page) : Type 0 where
  pub motifs : AllByRecursion LawfulMotif p.motifs
  pub motifs_apart : distinct (motif_names_in p) ≡ true
  pub few_motifs : length p.motifs ≤ 16
  pub rules : AllByRecursion (LawfulRule (length p.motifs)) p.rules
  pub rules_apart : distinct (rule_names_in p) ≡ true
  pub few_rules : length p.rules ≤ 8
  pub row : Codes p.row
  pub few_boxes : length p.row ≤ 20000
  pub marks : AllByRecursion (LawfulMark (length p.motifs)) p.marks
  pub few_marks : length p.marks ≤ 4000

-- a line that is not too long
abbrev pub Short : List ℕ → Type 0
Short l = length l ≤ 200

-- `ReadBack p`      where no line and not the whole is too long, the job is accepted and gives that very page
abbrev pub ReadBack : Page → Type 0
ReadBack p = AllByRecursion Short (chapter_lines p) → length (chapter_text p) ≤ 60000 → job_read empty_page (chapter_text p) ≡ record { page = p; fault = None }

-- lines of boxes and of marks are never too long
pub record RoundTrip : Type 0 where
  pub back : (p : Page) → LawfulPage p → ReadBack p
  pub boxes_short : (p : Page) → LawfulPage p → AllByRecursion Short (boxes_lines p)
  pub marks_short : (p : Page) → LawfulPage p → AllByRecursion Short (mark_lines p)
