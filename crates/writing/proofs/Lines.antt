-- Lines of boxes and of marks are read back.
use Rattle.std.proofs.Common.{◌≡◌, ℕ, ◌+◌, ◌≤◌, true, false, not, ◌&&◌, ltb, leb, List, [], ◌∷◌, map, length, ℤ, pos, None, Ok, sym, refl, ap, ◌∙◌, arith}
use Rattle.std.proofs.lemmas.List.{append-nil}
use Rattle.std.proofs.lemmas.Int.{ints}
use Rattle.std.proofs.lemmas.Bool.{and_parts, le-ltb, lt-leb}
use Rattle.std.specs.List.{AllByRecursion}
use Rattle.refusal.specs.Checks.{refuse}
use Rattle.std.specs.List.{list_all}
use Rattle.entry.specs.Names.{is_letter, is_name}
use Rattle.shape.specs.Kinds.{is_numeral}
use Rattle.parts.proofs.Cuts.{Lacks}
use Rattle.word.specs.Faults.{raised}
use Rattle.word.specs.Numbers.{code_of, counted, is_number, place_of}
use Rattle.word.specs.Runs.{first_fault_of}
use Rattle.word.specs.declared.limits.Limits.{Limits}
use Rattle.word.specs.declared.limits.Limits.TheVariants.{Code, Place}
use Rattle.word.specs.declared.faults.WordFault.TheVariants.{BadName, BadNumber}
use Rattle.line.specs.Lines.{◌else◌, boxes_fault, in_word, line_fault, mark_fault}
use Rattle.line.specs.Said.{line_says, mark}
use Rattle.line.specs.declared.kinds.Kind.TheVariants.{Boxes, Mark}
use Rattle.line.specs.declared.faults.LineFault.TheVariants.{BadShape}
use Rattle.text.specs.Taking.{take_judged, take_mark_of, unless_by, with_boxes, with_mark}
use Rattle.text.specs.declared.faults.TextFault.TheVariants.{LineTooLong, NoRoom}
use Rattle.writing.specs.Lines.{BoxesRead, BoxesTaken, Codes, MarkRead, MarkTaken, boxes_line, codes_field, mark_line}
use Rattle.writing.specs.Numerals.{Keeps, word_of, words_of}
use Rattle.writing.proofs.Bytes.{every-lacks}
use Rattle.writing.proofs.Fields.{line-fault, line-says}
use Rattle.writing.proofs.Laws.{all_shaped, all_sound, each, lacks, parted, shaped}
use Rattle.writing.proofs.Parting.{joined-lacks}
use Rattle.writing.proofs.Words.{back}

-- codes

pub code_keeps : (n : ℕ) → n ≤ 65535 → Keeps Code (pos n)
code_keeps n h = (omega (arith, ints), omega (arith, ints))

pub codes-keep : (cs : List ℕ) → Codes cs → AllByRecursion (Keeps Code) (map pos cs)
codes-keep [] a = tt
codes-keep (c ∷ cs) a = (code_keeps c a.0, codes-keep cs a.1)

pub code-back : (n : ℕ) → n ≤ 65535 → code_of (word_of (pos n)) ≡ n
code-back n h = ap counted (back Code (pos n) (code_keeps n h))

codes-back : (cs : List ℕ) → Codes cs → map code_of (words_of (map pos cs)) ≡ cs
codes-back [] a = refl
codes-back (c ∷ cs) a = λ i. code-back c a.0 i ∷ codes-back cs a.1 i

module _ (c : ℕ) (cs : List ℕ) (a : Codes (c ∷ cs)) where
  field_lacks : Lacks 44 (codes_field (c ∷ cs))
  field_lacks =
      joined-lacks 44 32 refl (word_of (pos c)) (words_of (map pos cs)) (lacks 44 refl Code (pos c) (code_keeps c a.0)) (each (Lacks 44) Code (lacks 44 refl Code) (map pos cs) (codes-keep cs a.1))

  boxes-none : boxes_fault (record { at = 2; bytes = codes_field (c ∷ cs) }) ≡ None
  boxes-none i =
      in_word (raised BadNumber 2 (all_sound Code (pos c) (map pos cs) (codes-keep (c ∷ cs) a) i)) else raised BadShape 2 (all_shaped Code (pos c) (map pos cs) (codes-keep (c ∷ cs) a) i)

  pub boxes_read : BoxesRead (c ∷ cs)
  boxes_read = record {
    sound = line-fault 98 (codes_field (c ∷ cs)) [] field_lacks tt Boxes refl refl refl ∙ boxes-none;
    says = line-says 98 (codes_field (c ∷ cs)) [] field_lacks tt Boxes refl;
    codes = ap (map code_of) (parted Code (pos c) (map pos cs) (codes-keep (c ∷ cs) a)) ∙ codes-back (c ∷ cs) a;
  }

  pub boxes_taken : BoxesTaken (c ∷ cs)
  boxes_taken p short room =
      let l = boxes_line (c ∷ cs) in
      ap (λ t. unless_by t LineTooLong (take_judged p (line_fault l) (line_says l))) (le-ltb 200 (length l) short)
      ∙ (λ i. take_judged p (boxes_read.sound i) (boxes_read.says i))
      ∙ ap (λ x. unless_by (ltb 20000 (length p.row + length x)) NoRoom (Ok (with_boxes p x))) boxes_read.codes
      ∙ ap (λ t. unless_by t NoRoom (Ok (with_boxes p (c ∷ cs)))) (le-ltb 20000 (length p.row + length (c ∷ cs)) room)

-- marks

pub place_keeps : (n : ℕ) → n ≤ 20000 → Keeps Place (pos n)
place_keeps n h = (omega (arith, ints), omega (arith, ints))

place-back : (n : ℕ) → n ≤ 20000 → place_of (word_of (pos n)) ≡ n
place-back n h = ap counted (back Place (pos n) (place_keeps n h))

-- a number alone in its field
pub one-sound : (m : Limits) (z : ℤ) → Keeps m z → first_fault_of is_numeral (is_number m) (word_of z) ≡ None
one-sound m z k = ap (first_fault_of is_numeral (is_number m)) (sym (append-nil (word_of z))) ∙ all_sound m z [] (k, tt)

pub name-lacks : (c : ℕ) (name : List ℕ) → is_letter c ≡ false → is_name name ≡ true → Lacks c name
name-lacks c name o n =
    let k = and_parts (leb 1 (length name)) (leb (length name) 8 && list_all is_letter name) n in
    every-lacks is_letter c name o (and_parts (leb (length name) 8) (list_all is_letter name) k.1).1

module _ (name : List ℕ) (start end : ℕ) (n : is_name name ≡ true) (s : start ≤ 20000) (e : end ≤ 20000) where
  mark-none : (i j k : ℕ) → mark_fault (record { at = i; bytes = name }) (record { at = j; bytes = word_of (pos start) }) (record { at = k; bytes = word_of (pos end) }) ≡ None
  mark-none i j k d =
      in_word (refuse (not (n d)) (BadName i) None) else in_word (raised BadNumber j (one-sound Place (pos start) (place_keeps start s) d)) else in_word (raised BadNumber k (one-sound Place (pos end) (place_keeps end e) d)) else raised BadShape j (shaped Place (pos start) (place_keeps start s) d) else raised BadShape k (shaped Place (pos end) (place_keeps end e) d)

  comma_name : Lacks 44 name
  comma_name = name-lacks 44 name refl n

  comma_places : AllByRecursion (Lacks 44) (word_of (pos start) ∷ word_of (pos end) ∷ [])
  comma_places = (lacks 44 refl Place (pos start) (place_keeps start s), (lacks 44 refl Place (pos end) (place_keeps end e), tt))

  pub mark_read : MarkRead name start end
  mark_read = record {
    sound = line-fault 115 name (word_of (pos start) ∷ word_of (pos end) ∷ []) comma_name comma_places Mark refl refl refl ∙ mark-none 2 (2 + length name + 1) (2 + length name + 1 + length (word_of (pos start)) + 1);
    says = line-says 115 name (word_of (pos start) ∷ word_of (pos end) ∷ []) comma_name comma_places Mark refl ∙ (λ i. mark name (place-back start s i) (place-back end e i));
  }

  pub mark_taken : MarkTaken name start end
  mark_taken p k short known room =
      let l = mark_line name start end in
      ap (λ t. unless_by t LineTooLong (take_judged p (line_fault l) (line_says l))) (le-ltb 200 (length l) short)
      ∙ (λ i. take_judged p (mark_read.sound i) (mark_read.says i))
      ∙ ap (λ o. take_mark_of p o start end) known
      ∙ ap (λ t. unless_by t NoRoom (Ok (with_mark p k start end))) (lt-leb 4000 (length p.marks) room)
