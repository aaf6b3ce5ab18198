-- A written net has its shape.
use Rattle.std.proofs.Common.{◌≡◌, ℕ, true, cond, ◌&&◌, leb, List, [], ◌∷◌, ◌++◌, map, length, None, refl, ap, ◌∙◌, append_assoc, arith}
use Rattle.std.proofs.lemmas.Bool.{and_parts, leb-true, or_right}
use Rattle.std.specs.List.{AllByRecursion}
use Rattle.std.specs.List.{list_all}
use Rattle.entry.specs.Names.{is_letter, is_name}
use Rattle.shape.specs.declared.kinds.Kind.TheVariants.{Space, Star, Dot, Open, Shut, Less, More, Numeral, Letter, Other}
use Rattle.shape.specs.Follow.{after, has, misfit}
use Rattle.shape.specs.Grammar.{name, net, numeral, range}
use Rattle.shape.specs.Kinds.{kind_of}
use Rattle.shape.specs.Shape.{Shape, empty, one, ◌then◌, ◌or◌, many}
use Rattle.word.specs.declared.limits.Limits.TheVariants.{Shift}
use Rattle.writing.specs.Joined.{behind}
use Rattle.writing.specs.Nets.{LawfulLeg, Leg, leg_text, net_text}
use Rattle.writing.specs.Numerals.{word_of}
use Rattle.writing.proofs.Bytes.{other}
use Rattle.writing.proofs.Laws.{whole}
use Rattle.writing.proofs.Nets.{letter-other}
use Rattle.writing.proofs.Shapes.{due, fits}

kind_letter : (b : ℕ) → is_letter b ≡ true → kind_of b ≡ Letter
kind_letter b h i =
    cond (other is_letter b 32 h refl i) Space
    (cond (other is_letter b 42 h refl i) Star
    (cond (other is_letter b 46 h refl i) Dot
    (cond (other is_letter b 91 h refl i) Open
    (cond (other is_letter b 93 h refl i) Shut
    (cond (other is_letter b 60 h refl i) Less
    (cond (other is_letter b 62 h refl i) More
    (cond (letter-other b h i) Numeral
    (cond (or_right (leb 65 b && leb b 90) (is_letter b) h i) Letter Other))))))))

turn : (s t : Shape) (b : ℕ) (w : List ℕ) → is_letter b ≡ true → after Letter s ≡ t → has s (b ∷ w) ≡ has t w
turn s t b w h e = ap (λ k. has (after k s) w) (kind_letter b h) ∙ ap (λ x. has x w) e

letters : (s : Shape) (w v : List ℕ) → after Letter s ≡ s → list_all is_letter w ≡ true → has s (w ++ v) ≡ has s v
letters s [] v e h = refl
letters s (b ∷ w) v e h =
    let k = and_parts (is_letter b) (list_all is_letter w) h in
    turn s s b (w ++ v) k.0 e ∙ letters s w v e k.1

abbrev links : Shape
links = many (one Space then ((empty or (range then one Space)) then name))

abbrev in_name : Shape
in_name = many (one Letter) then links

abbrev low_due : Shape
low_due = (((numeral then (one Space then (numeral then one More))) then one Space) then name) then links

abbrev in_low : Shape
in_low = (((many (one Numeral) then (one Space then (numeral then one More))) then one Space) then name) then links

abbrev high_due : Shape
high_due = (((numeral then one More) then one Space) then name) then links

abbrev in_high : Shape
in_high = (((many (one Numeral) then one More) then one Space) then name) then links

name-fits : (n v : List ℕ) → is_name n ≡ true → has net (n ++ v) ≡ has in_name v
name-fits [] v h = let z = leb-true 1 0 (and_parts (leb 1 0) (leb 0 8 && true) h).0 in absurd (omega arith)
name-fits (b ∷ w) v h =
    let n = b ∷ w in
    let k = and_parts (leb 1 (length n)) (leb (length n) 8 && list_all is_letter n) h in
    let l = and_parts (is_letter b) (list_all is_letter w) (and_parts (leb (length n) 8) (list_all is_letter n) k.1).1 in
    turn net in_name b (w ++ v) l.0 refl ∙ letters in_name w v refl l.1

leg_fits : (s : Leg) (v : List ℕ) → LawfulLeg s → has in_name (32 ∷ (leg_text s ++ v)) ≡ has in_name v
leg_fits s v l =
    let lo = word_of s.low in
    let hi = word_of s.high in
    let n = s.name in
    let a = whole Shift s.low l.lows in
    let b = whole Shift s.high l.highs in
    let all : (lo ++ (32 ∷ (hi ++ (62 ∷ 32 ∷ n)))) ++ v ≡ lo ++ (32 ∷ (hi ++ (62 ∷ 32 ∷ (n ++ v)))) = append_assoc lo (32 ∷ (hi ++ (62 ∷ 32 ∷ n))) v ∙ ap (λ x. lo ++ (32 ∷ x)) (append_assoc hi (62 ∷ 32 ∷ n) v) in
    ap (has low_due) all ∙ due low_due in_low lo (32 ∷ (hi ++ (62 ∷ 32 ∷ (n ++ v)))) refl refl a.0 a.1 ∙ due high_due in_high hi (62 ∷ 32 ∷ (n ++ v)) refl refl b.0 b.1 ∙ name-fits n v l.named

legs_fit : (ss : List Leg) → AllByRecursion LawfulLeg ss → has in_name (behind 32 (map leg_text ss)) ≡ true
legs_fit [] a = refl
legs_fit (s ∷ ss) a = leg_fits s (behind 32 (map leg_text ss)) a.0 ∙ legs_fit ss a.1

pub net_shaped : (n : List ℕ) (ss : List Leg) → is_name n ≡ true → AllByRecursion LawfulLeg ss → misfit net (net_text n ss) ≡ None
net_shaped n ss h a = fits net (net_text n ss) (name-fits n (behind 32 (map leg_text ss)) h ∙ legs_fit ss a)
