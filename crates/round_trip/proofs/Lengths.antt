-- Lines of boxes and of marks are never too long.
use Rattle.std.proofs.Common.{◌≡◌, ℕ, zero, suc, ◌*◌, ◌<◌, ◌≤◌, true, ◌&&◌, leb, List, [], ◌∷◌, ◌++◌, map, length, get_or, take, drop, pos, arith, length-append, length-take}
use Rattle.std.proofs.lemmas.Fmt.{length-decimal-le}
use Rattle.std.proofs.ByRecursion.{All-drop, All-get_or, All-map, All-take, All-weaker}
use Rattle.std.proofs.lemmas.Bool.{and_parts, leb-true}
use Rattle.std.specs.List.{AllByRecursion}
use Rattle.std.specs.List.{list_all}
use Rattle.entry.specs.Names.{is_letter, is_name}
use Rattle.text.specs.Pages.{Page, motif_names_in}
use Rattle.writing.specs.Joined.{behind}
use Rattle.writing.specs.Lines.{Codes, boxes_line, codes_field, mark_line}
use Rattle.writing.specs.Numerals.{word_of, words_of}
use Rattle.round_trip.specs.Chapters.{boxes_lines, cut, mark_lines, mark_of, pieces}
use Rattle.round_trip.specs.Laws.{LawfulMark, LawfulPage, Short}
use Rattle.round_trip.proofs.Taken.{lawful_names, of_names}

word-short : (n : ℕ) → n ≤ 65535 → length (word_of (pos n)) ≤ 5
word-short n h = length-decimal-le 5 n (omega arith) (omega arith) (omega arith)

words_short : (cs : List ℕ) → Codes cs → length (behind 32 (words_of (map pos cs))) ≤ 6 * length cs
words_short [] a = omega arith
words_short (c ∷ cs) a =
    omega (arith, length-append (word_of (pos c)) (behind 32 (words_of (map pos cs))), word-short c a.0, words_short cs a.1)

boxes-fit : (cs : List ℕ) → Codes cs → length cs ≤ 33 → Short (boxes_line cs)
boxes-fit [] a h = omega arith
boxes-fit (c ∷ cs) a h =
    let u = codes_field (c ∷ cs) in
    omega (arith, length-append u [], length-append (word_of (pos c)) (behind 32 (words_of (map pos cs))), word-short c a.0, words_short cs a.1)

cut-fit : (n : ℕ) (cs : List ℕ) → Codes cs → AllByRecursion (λ x. Short (boxes_line x)) (cut n cs)
cut-fit zero cs a = tt
cut-fit (suc n) [] a = tt
cut-fit (suc n) (c ∷ cs) a =
    (boxes-fit (take 33 (c ∷ cs)) (All-take (λ x. x ≤ 65535) 33 (c ∷ cs) a) (omega (arith, length-take 33 (c ∷ cs))), cut-fit n (drop 33 (c ∷ cs)) (All-drop (λ x. x ≤ 65535) 33 (c ∷ cs) a))

pub boxes_short : (p : Page) → LawfulPage p → AllByRecursion Short (boxes_lines p)
boxes_short p l = All-map Short boxes_line (pieces p.row) (cut-fit (length p.row) p.row l.row)

name-short : (n : List ℕ) → is_name n ≡ true → length n ≤ 8
name-short n h =
    let k = and_parts (leb 1 (length n)) (leb (length n) 8 && list_all is_letter n) h in
    leb-true (length n) 8 (and_parts (leb (length n) 8) (list_all is_letter n) k.1).0

mark-fits : (n : List ℕ) (start end : ℕ) → is_name n ≡ true → start ≤ 20000 → end ≤ 20000 → Short (mark_line n start end)
mark-fits n start end h s e =
    let u = word_of (pos start) in
    let v = word_of (pos end) in
    omega (arith, name-short n h, word-short start (omega arith), word-short end (omega arith), length-append n (44 ∷ (u ++ (44 ∷ (v ++ [])))), length-append u (44 ∷ (v ++ [])), length-append v [])

pub marks_short : (p : Page) → LawfulPage p → AllByRecursion Short (mark_lines p)
marks_short p l =
    let names = motif_names_in p in
    All-map Short (mark_of names) p.marks (All-weaker (LawfulMark (length p.motifs)) (λ m. Short (mark_of names m)) (λ m h.
    let k : m.motif < length names = of_names p (λ n. m.motif < n) h.known in
    mark-fits (get_or names m.motif []) m.start m.end (All-get_or (λ n. is_name n ≡ true) names m.motif [] k (lawful_names p l).named) h.starts h.ends) p.marks l.marks)
