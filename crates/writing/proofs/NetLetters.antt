-- The names of a written net are names.
use Rattle.std.proofs.Common.{◌≡◌, ℕ, ◌≤◌, true, false, ◌&&◌, eqb, leb, List, [], ◌∷◌, ◌++◌, map, length, None, sym, refl, ap, ◌∙◌, subst, inl, inr, append_assoc, arith}
use Rattle.std.proofs.lemmas.Bool.{and_from, and_left, and_parts, eqb-true, leb-true, lt-leb, or_cases, or_from, or_right}
use Rattle.std.specs.Char.{is_ascii_alphabetic, is_ascii_digit}
use Rattle.std.specs.List.{AllByRecursion}
use Rattle.std.specs.List.{list_all}
use Rattle.entry.specs.Names.{is_letter, is_name}
use Rattle.shape.specs.Kinds.{is_numeral}
use Rattle.word.specs.Runs.{first_fault_of}
use Rattle.word.specs.declared.limits.Limits.TheVariants.{Shift}
use Rattle.writing.specs.Joined.{behind}
use Rattle.writing.specs.Nets.{LawfulLeg, Leg, leg_text, net_text}
use Rattle.writing.specs.Numerals.{word_of}
use Rattle.writing.proofs.Bytes.{Plain, plain-first, plain-rest}
use Rattle.writing.proofs.Laws.{only}
use Rattle.writing.proofs.Sounds as sounds

abbrev Start : List ℕ → Type 0
Start v = sounds.Start is_ascii_alphabetic is_name v

abbrev Edge : List ℕ → Type 0
Edge v = sounds.Edge is_ascii_alphabetic is_name v

byte : (b : ℕ) (v : List ℕ) → is_ascii_alphabetic b ≡ false → Start v → Edge (b ∷ v)
byte b v o s = sounds.edge_byte is_ascii_alphabetic is_name b v o s

start : (v : List ℕ) → Edge v → Start v
start v e = sounds.edge_start is_ascii_alphabetic is_name v e

low_byte : (b : ℕ) → is_numeral b ≡ true → b ≤ 57
low_byte b h =
    elim (or_cases (is_ascii_digit b) (eqb b 45) h) [
      | inl d ↦ leb-true b 57 (and_parts (leb 48 b) (leb b 57) d).1
      | inr e ↦ omega (arith, eqb-true b 45 e)
    ]

numeral-other : (b : ℕ) → is_numeral b ≡ true → is_ascii_alphabetic b ≡ false
numeral-other b h =
    let k = low_byte b h in
    or_from (leb 65 b && leb b 90) (leb 97 b && leb b 122) (and_left (leb 65 b) (leb b 90) (lt-leb 65 b (omega arith))) (and_left (leb 97 b) (leb b 122) (lt-leb 97 b (omega arith)))

plain-start : (w v : List ℕ) → Plain w → Start v → Start (w ++ v)
plain-start [] v h s = s
plain-start (b ∷ w) v h s = start (b ∷ (w ++ v)) (byte b (w ++ v) (numeral-other b (plain-first b w h)) (plain-start w v (plain-rest b w h) s))

any-letters : (w : List ℕ) → list_all is_letter w ≡ true → list_all is_ascii_alphabetic w ≡ true
any-letters [] h = refl
any-letters (b ∷ w) h =
    let k = and_parts (is_letter b) (list_all is_letter w) h in
    and_from (is_ascii_alphabetic b) (list_all is_ascii_alphabetic w) (or_right (leb 65 b && leb b 90) (is_letter b) k.0) (any-letters w k.1)

name-start : (n v : List ℕ) → is_name n ≡ true → Edge v → Start (n ++ v)
name-start n v h e =
    let k = and_parts (leb 1 (length n)) (leb (length n) 8 && list_all is_letter n) h in
    sounds.start_word is_ascii_alphabetic is_name n v (any-letters n (and_parts (leb (length n) 8) (list_all is_letter n) k.1).1, h) e

leg_start : (s : Leg) (v : List ℕ) → LawfulLeg s → Edge v → Start (leg_text s ++ v)
leg_start s v l e =
    let lo = word_of s.low in
    let hi = word_of s.high in
    let n = s.name in
    let end : Edge (62 ∷ 32 ∷ (n ++ v)) = byte 62 (32 ∷ (n ++ v)) refl (start (32 ∷ (n ++ v)) (byte 32 (n ++ v) refl (name-start n v l.named e))) in
    let high : Start (hi ++ (62 ∷ 32 ∷ (n ++ v))) = plain-start hi (62 ∷ 32 ∷ (n ++ v)) (only Shift s.high l.highs) (start (62 ∷ 32 ∷ (n ++ v)) end) in
    let low : Start (lo ++ (32 ∷ (hi ++ (62 ∷ 32 ∷ (n ++ v))))) = plain-start lo (32 ∷ (hi ++ (62 ∷ 32 ∷ (n ++ v)))) (only Shift s.low l.lows) (start (32 ∷ (hi ++ (62 ∷ 32 ∷ (n ++ v)))) (byte 32 (hi ++ (62 ∷ 32 ∷ (n ++ v))) refl high)) in
    let whole : (lo ++ (32 ∷ (hi ++ (62 ∷ 32 ∷ n)))) ++ v ≡ lo ++ (32 ∷ (hi ++ (62 ∷ 32 ∷ (n ++ v)))) = append_assoc lo (32 ∷ (hi ++ (62 ∷ 32 ∷ n))) v ∙ ap (λ x. lo ++ (32 ∷ x)) (append_assoc hi (62 ∷ 32 ∷ n) v) in
    start (leg_text s ++ v) (byte 60 ((lo ++ (32 ∷ (hi ++ (62 ∷ 32 ∷ n)))) ++ v) refl (subst Start (sym whole) low))

legs_edge : (ss : List Leg) → AllByRecursion LawfulLeg ss → Edge (behind 32 (map leg_text ss))
legs_edge [] a = sounds.edge_end is_ascii_alphabetic is_name
legs_edge (s ∷ ss) a = byte 32 (leg_text s ++ behind 32 (map leg_text ss)) refl (leg_start s (behind 32 (map leg_text ss)) a.0 (legs_edge ss a.1))

pub net_named : (n : List ℕ) (ss : List Leg) → is_name n ≡ true → AllByRecursion LawfulLeg ss → first_fault_of is_ascii_alphabetic is_name (net_text n ss) ≡ None
net_named n ss h a = name-start n (behind 32 (map leg_text ss)) h (legs_edge ss a) 0
