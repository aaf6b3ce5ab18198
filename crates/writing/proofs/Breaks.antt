-- No written line has a byte 10.
use Rattle.std.proofs.Common.{◌≡◌, ℕ, ◌+◌, ◌≤◌, Bool, true, false, cond, eqb, List, [], ◌∷◌, ◌++◌, length, pos, Some, None, Option, sym, refl, ap, ◌∙◌, arith}
use Rattle.std.specs.List.{AllByRecursion}
use Rattle.entry.specs.Names.{is_name}
use Rattle.parts.specs.Parts.{parts, tally}
use Rattle.parts.proofs.Cuts.{Lacks, parts_first}
use Rattle.parts.proofs.Tallies.{tally-cons}
use Rattle.word.specs.declared.limits.Limits.TheVariants.{Code, Place}
use Rattle.text.specs.Pages.{MotifEntry, RuleEntry}
use Rattle.writing.specs.Bodies.{body_text}
use Rattle.writing.specs.Breaks.{Whole, ended}
use Rattle.writing.specs.Lines.{Codes, boxes_line, codes_field, line_of, mark_line}
use Rattle.writing.specs.Motifs.{LawfulMotif, motif_line}
use Rattle.writing.specs.Rules.{LawfulNames, LawfulRule, net_field, rule_line}
use Rattle.writing.specs.Numerals.{word_of}
use Rattle.writing.proofs.Bytes.{lacks-tally}
use Rattle.writing.proofs.Items.{Foreign, codes_lack, text_lacks}
use Rattle.writing.proofs.Laws.{lacks}
use Rattle.writing.proofs.Lines.{code_keeps, name-lacks, place_keeps}
use Rattle.writing.proofs.Parting.{joined-lacks}
use Rattle.writing.proofs.Rules.{net-lacks}

picked : (c x : ℕ) (w : List ℕ) (t : Bool) → eqb x c ≡ t → (tally c w ≡ 0 → Lacks c w) → tally c w + cond t 1 0 ≡ 0 → Lacks c (x ∷ w)
picked c x w true e rest h = absurd (omega arith)
picked c x w false e rest h = (e, rest (omega arith))

tally-lacks : (c : ℕ) (w : List ℕ) → tally c w ≡ 0 → Lacks c w
tally-lacks c [] h = tt
tally-lacks c (x ∷ w) h = picked c x w (eqb x c) refl (tally-lacks c w) (sym (tally-cons c x w) ∙ h)

pub lines_parted : (ls : List (List ℕ)) → AllByRecursion Whole ls → parts 10 (ended ls) ≡ ls ++ [] ∷ []
lines_parted [] a = refl
lines_parted (l ∷ ls) a = parts_first 10 l (ended ls) (tally-lacks 10 l a.0) ∙ ap (λ x. l ∷ x) (lines_parted ls a.1)

-- a line whose fields have none
line-whole : (a : ℕ) (f : List ℕ) (fs : List (List ℕ)) → eqb a 10 ≡ false → Lacks 10 f → AllByRecursion (Lacks 10) fs → Whole (line_of a (f ∷ fs))
line-whole a f fs o h k = lacks-tally 10 (line_of a (f ∷ fs)) (o, (refl, joined-lacks 10 44 refl f fs h k))

foreign : Foreign 10
foreign = record { numeral = refl; space = refl; dot = refl; opening = refl; shutting = refl }

pub boxes_whole : (c : ℕ) (cs : List ℕ) → Codes (c ∷ cs) → Whole (boxes_line (c ∷ cs))
boxes_whole c cs a = line-whole 98 (codes_field (c ∷ cs)) [] refl (codes_lack 10 foreign (c ∷ cs) a) tt

pub mark_whole : (name : List ℕ) (start end : ℕ) → is_name name ≡ true → start ≤ 20000 → end ≤ 20000 → Whole (mark_line name start end)
mark_whole name start end n s e =
    line-whole 115 name (word_of (pos start) ∷ word_of (pos end) ∷ []) refl (name-lacks 10 name refl n) (lacks 10 refl Place (pos start) (place_keeps start s), (lacks 10 refl Place (pos end) (place_keeps end e), tt))

pub motif_whole : (m : MotifEntry) → LawfulMotif m → Whole (motif_line m)
motif_whole m l =
    line-whole 109 m.name (word_of (pos m.weight) ∷ body_text m.body ∷ []) refl (name-lacks 10 m.name refl l.named) (lacks 10 refl Code (pos m.weight) (code_keeps m.weight l.weighs), (text_lacks 10 foreign refl m.body l.body, tt))

pub rule_whole : (names : List (List ℕ)) (r : RuleEntry) → LawfulNames names → LawfulRule (length names) r → Whole (rule_line names r)
rule_whole names r n h =
    line-whole 114 r.name (net_field names r.net ∷ []) refl (name-lacks 10 r.name refl h.named) (net-lacks 10 (record { numeral = refl; letter = refl; space = refl; less = refl; more = refl }) names r n h, tt)
