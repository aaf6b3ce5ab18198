-- The numbers of a written net are sound.
use Rattle.std.proofs.Common.{◌≡◌, ℕ, true, false, ◌&&◌, eqb, leb, List, [], ◌∷◌, ◌++◌, map, length, None, sym, refl, ap, ◌∙◌, subst, append_assoc, arith}
use Rattle.std.proofs.lemmas.Bool.{and_parts, and_right, leb-true, lt-leb, ne_eqb, or_from}
use Rattle.std.specs.Char.{is_ascii_digit}
use Rattle.std.specs.List.{AllByRecursion}
use Rattle.std.specs.List.{list_all}
use Rattle.entry.specs.Names.{is_letter, is_name}
use Rattle.shape.specs.Kinds.{is_numeral}
use Rattle.word.specs.Numbers.{is_number}
use Rattle.word.specs.Runs.{first_fault_of}
use Rattle.word.specs.declared.limits.Limits.TheVariants.{Shift}
use Rattle.writing.specs.Joined.{behind}
use Rattle.writing.specs.Nets.{LawfulLeg, Leg, leg_text, net_text}
use Rattle.writing.specs.Numerals.{word_of}
use Rattle.writing.proofs.Laws.{good}
use Rattle.writing.proofs.Sounds as sounds

abbrev Start : List ℕ → Type 0
Start v = sounds.Start is_numeral (is_number Shift) v

abbrev Edge : List ℕ → Type 0
Edge v = sounds.Edge is_numeral (is_number Shift) v

byte : (b : ℕ) (v : List ℕ) → is_numeral b ≡ false → Start v → Edge (b ∷ v)
byte b v o s = sounds.edge_byte is_numeral (is_number Shift) b v o s

start : (v : List ℕ) → Edge v → Start v
start v e = sounds.edge_start is_numeral (is_number Shift) v e

pub letter-other : (b : ℕ) → is_letter b ≡ true → is_numeral b ≡ false
letter-other b h =
    let k = leb-true 97 b (and_parts (leb 97 b) (leb b 122) h).0 in
    or_from (is_ascii_digit b) (eqb b 45) (and_right (leb 48 b) (leb b 57) (lt-leb b 57 (omega arith))) (ne_eqb b 45 (λ e. omega arith))

letters-start : (w v : List ℕ) → list_all is_letter w ≡ true → Start v → Start (w ++ v)
letters-start [] v h s = s
letters-start (b ∷ w) v h s =
    let k = and_parts (is_letter b) (list_all is_letter w) h in
    start (b ∷ (w ++ v)) (byte b (w ++ v) (letter-other b k.0) (letters-start w v k.1 s))

name-start : (n v : List ℕ) → is_name n ≡ true → Edge v → Start (n ++ v)
name-start n v h e =
    let k = and_parts (leb 1 (length n)) (leb (length n) 8 && list_all is_letter n) h in
    letters-start n v (and_parts (leb (length n) 8) (list_all is_letter n) k.1).1 (start v e)

leg_start : (s : Leg) (v : List ℕ) → LawfulLeg s → Edge v → Start (leg_text s ++ v)
leg_start s v l e =
    let lo = word_of s.low in
    let hi = word_of s.high in
    let n = s.name in
    let word = sounds.start_word is_numeral (is_number Shift) in
    let end : Edge (62 ∷ 32 ∷ (n ++ v)) = byte 62 (32 ∷ (n ++ v)) refl (start (32 ∷ (n ++ v)) (byte 32 (n ++ v) refl (name-start n v l.named e))) in
    let high : Start (hi ++ (62 ∷ 32 ∷ (n ++ v))) = word hi (62 ∷ 32 ∷ (n ++ v)) (good Shift s.high l.highs) end in
    let low : Start (lo ++ (32 ∷ (hi ++ (62 ∷ 32 ∷ (n ++ v))))) = word lo (32 ∷ (hi ++ (62 ∷ 32 ∷ (n ++ v)))) (good Shift s.low l.lows) (byte 32 (hi ++ (62 ∷ 32 ∷ (n ++ v))) refl high) in
    let whole : (lo ++ (32 ∷ (hi ++ (62 ∷ 32 ∷ n)))) ++ v ≡ lo ++ (32 ∷ (hi ++ (62 ∷ 32 ∷ (n ++ v)))) = append_assoc lo (32 ∷ (hi ++ (62 ∷ 32 ∷ n))) v ∙ ap (λ x. lo ++ (32 ∷ x)) (append_assoc hi (62 ∷ 32 ∷ n) v) in
    start (leg_text s ++ v) (byte 60 ((lo ++ (32 ∷ (hi ++ (62 ∷ 32 ∷ n)))) ++ v) refl (subst Start (sym whole) low))

legs_edge : (ss : List Leg) → AllByRecursion LawfulLeg ss → Edge (behind 32 (map leg_text ss))
legs_edge [] a = sounds.edge_end is_numeral (is_number Shift)
legs_edge (s ∷ ss) a = byte 32 (leg_text s ++ behind 32 (map leg_text ss)) refl (leg_start s (behind 32 (map leg_text ss)) a.0 (legs_edge ss a.1))

pub net_sound : (n : List ℕ) (ss : List Leg) → is_name n ≡ true → AllByRecursion LawfulLeg ss → first_fault_of is_numeral (is_number Shift) (net_text n ss) ≡ None
net_sound n ss h a = name-start n (behind 32 (map leg_text ss)) h (legs_edge ss a) 0
