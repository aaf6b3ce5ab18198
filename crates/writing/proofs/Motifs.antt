-- Lines of motifs are read back.
use Rattle.std.proofs.Common.{◌≡◌, ℕ, ◌+◌, not, [], ◌∷◌, length, pos, None, Ok, refl, ap, ◌∙◌}
use Rattle.std.proofs.lemmas.Bool.{le-ltb, lt-leb}
use Rattle.std.specs.List.{AllByRecursion}
use Rattle.refusal.specs.Checks.{refuse, refused_by}
use Rattle.parts.proofs.Cuts.{Lacks}
use Rattle.word.specs.Faults.{raised}
use Rattle.word.specs.declared.limits.Limits.TheVariants.{Code}
use Rattle.word.specs.declared.faults.WordFault.TheVariants.{BadName, BadNumber}
use Rattle.line.specs.Lines.{◌else◌, in_word, line_fault, motif_fault}
use Rattle.line.specs.Said.{line_says, motif}
use Rattle.line.specs.declared.kinds.Kind.TheVariants.{Motif}
use Rattle.line.specs.declared.faults.LineFault.TheVariants.{BadShape, TooMany}
use Rattle.text.specs.Pages.{MotifEntry}
use Rattle.text.specs.Taking.{body_in, take_judged, unless_by, with_motif}
use Rattle.text.specs.declared.faults.TextFault.TheVariants.{LineTooLong, NameTaken, NoRoom}
use Rattle.writing.specs.Bodies.{body_text}
use Rattle.writing.specs.Motifs.{LawfulMotif, MotifRead, MotifTaken, motif_line}
use Rattle.writing.specs.Numerals.{word_of}
use Rattle.writing.proofs.Bodies.{body_shaped, body_sound}
use Rattle.writing.proofs.Fields.{line-fault, line-says}
use Rattle.writing.proofs.Items.{body_back, text_lacks}
use Rattle.writing.proofs.Laws.{lacks, shaped}
use Rattle.writing.proofs.Lines.{code-back, code_keeps, name-lacks, one-sound}

module _ (m : MotifEntry) (l : LawfulMotif m) where
  motif-none : (i j k : ℕ) → motif_fault (record { at = i; bytes = m.name }) (record { at = j; bytes = word_of (pos m.weight) }) (record { at = k; bytes = body_text m.body }) ≡ None
  motif-none i j k d =
      let w = code_keeps m.weight l.weighs in
      in_word (refuse (not (l.named d)) (BadName i) None) else in_word (raised BadNumber j (one-sound Code (pos m.weight) w d)) else in_word (raised BadNumber k (body_sound m.body l.body d)) else raised BadShape j (shaped Code (pos m.weight) w d) else raised BadShape k (body_shaped m.body l.body d) else raised TooMany k (refused_by (body_back m.body l.body d))

  comma_name : Lacks 44 m.name
  comma_name = name-lacks 44 m.name refl l.named

  comma_rest : AllByRecursion (Lacks 44) (word_of (pos m.weight) ∷ body_text m.body ∷ [])
  comma_rest = (lacks 44 refl Code (pos m.weight) (code_keeps m.weight l.weighs), (text_lacks 44 (record { numeral = refl; space = refl; dot = refl; opening = refl; shutting = refl }) refl m.body l.body, tt))

  pub motif_read : MotifRead m
  motif_read = record {
    sound = line-fault 109 m.name (word_of (pos m.weight) ∷ body_text m.body ∷ []) comma_name comma_rest Motif refl refl refl ∙ motif-none 2 (2 + length m.name + 1) (2 + length m.name + 1 + length (word_of (pos m.weight)) + 1);
    says = line-says 109 m.name (word_of (pos m.weight) ∷ body_text m.body ∷ []) comma_name comma_rest Motif refl ∙ (λ i. motif m.name (code-back m.weight l.weighs i) (body_text m.body));
  }

  pub motif_taken : MotifTaken m
  motif_taken p short free room =
      let t = motif_line m in
      ap (λ x. unless_by x LineTooLong (take_judged p (line_fault t) (line_says t))) (le-ltb 200 (length t) short)
      ∙ (λ i. take_judged p (motif_read.sound i) (motif_read.says i))
      ∙ (λ i. unless_by (free i) NameTaken (unless_by (lt-leb 16 (length p.motifs) room i) NoRoom (Ok (with_motif p (record { name = m.name; weight = m.weight; body = body_in (body_back m.body l.body i) })))))
