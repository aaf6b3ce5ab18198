-- A chapter is read back from the job that it is written as.
use Rattle.std.proofs.Common.{◌≡◌, ℕ, ◌<◌, true, List, [], ◌∷◌, ◌++◌, length, get_or, None, sym, ap, ◌∙◌, arith}
use Rattle.std.proofs.ByRecursion.{All-append, All-get_or, All-map, All-weaker}
use Rattle.std.specs.List.{AllByRecursion}
use Rattle.entry.specs.Names.{is_name}
use Rattle.entry.specs.declared.mark.Mark.{Mark}
use Rattle.text.specs.Pages.{Page, motif_names_in}
use Rattle.writing.specs.Breaks.{Whole}
use Rattle.writing.specs.Lines.{boxes_line}
use Rattle.writing.specs.Motifs.{LawfulMotif, motif_line}
use Rattle.writing.specs.Rules.{LawfulRule, rule_line}
use Rattle.writing.proofs.Breaks.{boxes_whole, lines_parted, mark_whole, motif_whole, rule_whole}
use Rattle.job.specs.Examples.{empty_page}
use Rattle.job.specs.Jobs.{Read, read_lines}
use Rattle.job.proofs.Reading.{short}
use Rattle.round_trip.specs.Chapters.{boxes_lines, chapter_lines, chapter_text, mark_lines, mark_of, motif_lines, pieces, rule_lines}
use Rattle.round_trip.specs.Laws.{LawfulMark, LawfulPage, ReadBack, Short}
use Rattle.round_trip.proofs.Names.{all_parts}
use Rattle.round_trip.proofs.Pieces.{Piece, pieces-lawful}
use Rattle.round_trip.proofs.Taken.{boxes_lead, marks_lead, lawful_names, motifs_lead, of_names, page, rules_lead}
use Rattle.round_trip.proofs.Turns.{Leads, both_lead}

piece_whole : (x : List ℕ) → Piece x → Whole (boxes_line x)
piece_whole [] h = absurd (omega (arith, h.0))
piece_whole (c ∷ x) h = boxes_whole c x h.1

module _ (p : Page) (l : LawfulPage p) where
  mark-line : (m : Mark) → LawfulMark (length p.motifs) m → Whole (mark_of (motif_names_in p) m)
  mark-line m h =
      let names = motif_names_in p in
      let k : m.motif < length names = of_names p (λ n. m.motif < n) h.known in
      mark_whole (get_or names m.motif []) m.start m.end (All-get_or (λ n. is_name n ≡ true) names m.motif [] k (lawful_names p l).named) h.starts h.ends

  all_whole : AllByRecursion Whole (chapter_lines p)
  all_whole =
      let names = motif_names_in p in
      let motifs = All-map Whole motif_line p.motifs (All-weaker LawfulMotif (λ m. Whole (motif_line m)) motif_whole p.motifs l.motifs) in
      let rules = All-map Whole (rule_line names) p.rules (All-weaker (LawfulRule (length p.motifs)) (λ r. Whole (rule_line names r)) (λ r h. rule_whole names r (lawful_names p l) (of_names p (λ n. LawfulRule n r) h)) p.rules l.rules) in
      let boxes = All-map Whole boxes_line (pieces p.row) (All-weaker Piece (λ x. Whole (boxes_line x)) piece_whole (pieces p.row) (pieces-lawful p.row l.row)) in
      let marks = All-map Whole (mark_of names) p.marks (All-weaker (LawfulMark (length p.motifs)) (λ m. Whole (mark_of names m)) mark-line p.marks l.marks) in
      All-append Whole (motif_lines p) (rule_lines p ++ (boxes_lines p ++ mark_lines p)) motifs (All-append Whole (rule_lines p) (boxes_lines p ++ mark_lines p) rules (All-append Whole (boxes_lines p) (mark_lines p) boxes marks))

  all_lead : AllByRecursion Short (chapter_lines p) → Leads empty_page (chapter_lines p) p
  all_lead a =
      let b = all_parts Short (motif_lines p) (rule_lines p ++ (boxes_lines p ++ mark_lines p)) a in
      let c = all_parts Short (rule_lines p) (boxes_lines p ++ mark_lines p) b.1 in
      let d = all_parts Short (boxes_lines p) (mark_lines p) c.1 in
      let three : Page = page p.motifs p.rules p.row [] in
      let two : Page = page p.motifs p.rules [] [] in
      let one : Page = page p.motifs [] [] [] in
      let last = both_lead two three p (boxes_lines p) (mark_lines p) (boxes_lead p l d.0) (marks_lead p l d.1) in
      let more = both_lead one two p (rule_lines p) (boxes_lines p ++ mark_lines p) (rules_lead p l c.0) last in
      both_lead empty_page one p (motif_lines p) (rule_lines p ++ (boxes_lines p ++ mark_lines p)) (motifs_lead p l b.0) more

-- behind the last byte 10 comes an empty line, which brings nothing
pub round_trip : (p : Page) → LawfulPage p → ReadBack p
round_trip p l a few =
    let r : Read = record { page = p; fault = None } in
    let read : read_lines empty_page (chapter_lines p ++ [] ∷ []) ≡ r = (all_lead p l a 0 ([] ∷ [])).1 in
    sym (short (chapter_text p) empty_page r few (sym read ∙ ap (read_lines empty_page) (sym (lines_parted (chapter_lines p) (all_whole p l)))))
