-- The lines of each kind are taken, one after the other.
use Rattle.std.proofs.Common.{◌≡◌, ℕ, ◌+◌, ◌<◌, ◌≤◌, true, List, [], ◌∷◌, ◌++◌, length, get_or, Ok, sym, ap, ◌∙◌, subst, arith}
use Rattle.std.proofs.ByRecursion.{All-get_or, All-map, All-weaker}
use Rattle.std.proofs.lemmas.List.{flat_map_more, length-map}
use Rattle.std.specs.List.{AllByRecursion}
use Rattle.entry.specs.Names.{is_name}
use Rattle.entry.specs.declared.mark.Mark.{Mark}
use Rattle.text.specs.Pages.{MotifEntry, Page, RuleEntry, motif_names_in}
use Rattle.writing.specs.Lines.{boxes_line}
use Rattle.writing.specs.Motifs.{LawfulMotif, motif_line}
use Rattle.writing.specs.Rules.{LawfulNames, LawfulRule, rule_line}
use Rattle.writing.proofs.Lines.{boxes_taken, mark_taken}
use Rattle.writing.proofs.Motifs.{motif_taken}
use Rattle.writing.proofs.Numbers.{number_of}
use Rattle.writing.proofs.Rules.{rule_taken}
use Rattle.job.specs.Jobs.{line_read}
use Rattle.round_trip.specs.Chapters.{boxes_lines, mark_lines, mark_of, motif_lines, pieces, rule_lines}
use Rattle.round_trip.specs.Laws.{LawfulMark, LawfulPage, Short}
use Rattle.round_trip.proofs.Names.{all_unmap, fewer, free, holds}
use Rattle.round_trip.proofs.Pieces.{Piece, laid, piece_room, pieces-laid, pieces-lawful}
use Rattle.round_trip.proofs.Turns.{Leads, in_turn}

abbrev pub page : List MotifEntry → List RuleEntry → List ℕ → List Mark → Page
page ms rs cs ks = record { motifs = ms; rules = rs; row = cs; marks = ks }

pub lawful_names : (p : Page) → LawfulPage p → LawfulNames (motif_names_in p)
lawful_names p l = record {
  named = All-map (λ n. is_name n ≡ true) (λ m. m.name) p.motifs (All-weaker LawfulMotif (λ m. is_name m.name ≡ true) (λ m h. h.named) p.motifs l.motifs);
  apart = l.motifs_apart;
}

-- the number of names is that of motifs
pub of_names : (p : Page) (P : ℕ → Type 0) → P (length p.motifs) → P (length (motif_names_in p))
of_names p P h = subst P (sym (length-map p.motifs (λ m. m.name))) h

module _ (p : Page) (l : LawfulPage p) where
  pub motifs_lead : AllByRecursion Short (motif_lines p) → Leads (page [] [] [] []) (motif_lines p) (page p.motifs [] [] [])
  motifs_lead a = in_turn (λ ms. page ms [] [] []) motif_line p.motifs (λ done m rest e.
      motif_taken m (holds p.motifs done m rest e LawfulMotif l.motifs) (page done [] [] [])
      (holds p.motifs done m rest e (λ x. Short (motif_line x)) (all_unmap Short motif_line p.motifs a))
      (free p.motifs done m rest e (λ x. x.name) l.motifs_apart)
      (omega (arith, fewer p.motifs done m rest e, l.few_motifs)))

  pub rules_lead : AllByRecursion Short (rule_lines p) → Leads (page p.motifs [] [] []) (rule_lines p) (page p.motifs p.rules [] [])
  rules_lead a =
      let line = rule_line (motif_names_in p) in
      in_turn (λ rs. page p.motifs rs [] []) line p.rules (λ done r rest e.
      rule_taken (page p.motifs done [] []) r (lawful_names p l) (of_names p (λ n. LawfulRule n r) (holds p.rules done r rest e (LawfulRule (length p.motifs)) l.rules))
      (holds p.rules done r rest e (λ x. Short (line x)) (all_unmap Short line p.rules a))
      (free p.rules done r rest e (λ x. x.name) l.rules_apart)
      (omega (arith, fewer p.rules done r rest e, l.few_rules)))

  piece_taken : (cs x : List ℕ) → Piece x → Short (boxes_line x) → length cs + length x ≤ 20000 → line_read (page p.motifs p.rules cs []) (boxes_line x) ≡ Ok (page p.motifs p.rules (cs ++ x) [])
  piece_taken cs [] h s r = absurd (omega (arith, h.0))
  piece_taken cs (c ∷ x) h s r = boxes_taken c x h.1 (page p.motifs p.rules cs []) s r

  pub boxes_lead : AllByRecursion Short (boxes_lines p) → Leads (page p.motifs p.rules [] []) (boxes_lines p) (page p.motifs p.rules p.row [])
  boxes_lead a =
      let all = pieces p.row in
      subst (λ cs. Leads (page p.motifs p.rules [] []) (boxes_lines p) (page p.motifs p.rules cs [])) (pieces-laid p.row)
      (in_turn (λ ps. page p.motifs p.rules (laid ps) []) boxes_line all (λ done x rest e.
      piece_taken (laid done) x (holds all done x rest e Piece (pieces-lawful p.row l.row))
      (holds all done x rest e (λ y. Short (boxes_line y)) (all_unmap Short boxes_line all a)) (omega (arith, piece_room p.row done x rest e, l.few_boxes))
      ∙ ap (λ cs. Ok (page p.motifs p.rules cs [])) (flat_map_more (λ y. y) [] done x)))

  pub marks_lead : AllByRecursion Short (mark_lines p) → Leads (page p.motifs p.rules p.row []) (mark_lines p) p
  marks_lead a =
      let names = motif_names_in p in
      in_turn (λ ks. page p.motifs p.rules p.row ks) (mark_of names) p.marks (λ done m rest e.
      let h = holds p.marks done m rest e (LawfulMark (length p.motifs)) l.marks in
      let k : m.motif < length names = of_names p (λ n. m.motif < n) h.known in
      mark_taken (get_or names m.motif []) m.start m.end (All-get_or (λ n. is_name n ≡ true) names m.motif [] k (lawful_names p l).named) h.starts h.ends (page p.motifs p.rules p.row done) m.motif
      (holds p.marks done m rest e (λ x. Short (mark_of names x)) (all_unmap Short (mark_of names) p.marks a))
      (number_of names l.motifs_apart m.motif k)
      (omega (arith, fewer p.marks done m rest e, l.few_marks)))
