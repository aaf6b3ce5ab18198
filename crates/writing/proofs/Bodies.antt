-- Written bodies are sound and have their shape.
use Rattle.std.proofs.Common.{◌≡◌, ℕ, ◌<◌, true, false, List, [], ◌∷◌, ◌++◌, map, length, pos, Some, None, Option, sym, refl, ap, ◌∙◌, subst, append_assoc, arith}
use Rattle.std.proofs.lemmas.List.{append-nil}
use Rattle.std.specs.List.{AllByRecursion}
use Rattle.shape.specs.declared.kinds.Kind.TheVariants.{Space, Shut, Numeral}
use Rattle.shape.specs.Follow.{has, misfit}
use Rattle.shape.specs.Grammar.{body, codes, item, numeral, parted}
use Rattle.shape.specs.Kinds.{is_numeral}
use Rattle.shape.specs.Shape.{Shape, one, ◌then◌, many}
use Rattle.word.specs.Numbers.{is_number}
use Rattle.word.specs.Runs.{first_fault_of}
use Rattle.word.specs.declared.limits.Limits.TheVariants.{Code}
use Rattle.body.specs.Entries.{Entry, any, code, one_of}
use Rattle.writing.specs.Bodies.{Lawful, LawfulBody, body_text, item_text}
use Rattle.writing.specs.Joined.{behind}
use Rattle.writing.specs.Lines.{Codes, codes_field}
use Rattle.writing.specs.Numerals.{word_of, words_of}
use Rattle.writing.proofs.Laws.{each, good, whole}
use Rattle.writing.proofs.Lines.{code_keeps, codes-keep}
use Rattle.writing.proofs.Shapes.{Whole, due, fits}
use Rattle.writing.proofs.Sounds as sounds

abbrev Start : List ℕ → Type 0
Start v = sounds.Start is_numeral (is_number Code) v

abbrev Edge : List ℕ → Type 0
Edge v = sounds.Edge is_numeral (is_number Code) v

byte : (b : ℕ) (v : List ℕ) → is_numeral b ≡ false → Start v → Edge (b ∷ v)
byte b v o s = sounds.edge_byte is_numeral (is_number Code) b v o s

start : (v : List ℕ) → Edge v → Start v
start v e = sounds.edge_start is_numeral (is_number Code) v e

-- codes, and what follows them
codes-start : (cs : List ℕ) (v : List ℕ) → Codes cs → Edge v → Start (codes_field cs ++ v)
codes-start [] v a e = start v e
codes-start (c ∷ cs) v a e =
    sounds.start_words is_numeral (is_number Code) refl (word_of (pos c)) (words_of (map pos cs)) v (good Code (pos c) (code_keeps c a.0)) (each (sounds.Good is_numeral (is_number Code)) Code (good Code) (map pos cs) (codes-keep cs a.1)) e

item-start : (e : Entry) (v : List ℕ) → Lawful e → Edge v → Start (item_text e ++ v)
item-start (code c) v l e = codes-start (c ∷ []) v l e
item-start any v l e = start (46 ∷ v) (byte 46 v refl (start v e))
item-start (one_of cs) v l e =
    start (91 ∷ ((codes_field cs ++ 93 ∷ []) ++ v)) (byte 91 ((codes_field cs ++ 93 ∷ []) ++ v) refl (subst Start (sym (append_assoc (codes_field cs) (93 ∷ []) v)) (codes-start cs (93 ∷ v) l.2 (byte 93 v refl (start v e)))))

items_edge : (es : List Entry) → AllByRecursion Lawful es → Edge (behind 32 (map item_text es))
items_edge [] a = sounds.edge_end is_numeral (is_number Code)
items_edge (e ∷ es) a = byte 32 (item_text e ++ behind 32 (map item_text es)) refl (item-start e (behind 32 (map item_text es)) a.0 (items_edge es a.1))

pub body_sound : (b : Option (List Entry)) → LawfulBody b → first_fault_of is_numeral (is_number Code) (body_text b) ≡ None
body_sound None l = refl
body_sound (Some []) l = absurd (omega (arith, l.0))
body_sound (Some (e ∷ es)) l = item-start e (behind 32 (map item_text es)) l.2.0 (items_edge es l.2.1) 0

-- the shapes of what may follow

abbrev items : Shape
items = many (one Space then item)

abbrev in_item : Shape
in_item = many (one Numeral) then items

abbrev class_due : Shape
class_due = (codes then one Shut) then items

abbrev inside_class : Shape
inside_class = ((many (one Numeral) then many (one Space then numeral)) then one Shut) then items

-- what may follow an item of either sort
abbrev Follows : List ℕ → Type 0
Follows v = (has in_item v ≡ true) × (has items v ≡ true)

class_shut : (w : List ℕ) (ws : List (List ℕ)) (v : List ℕ) → Whole w → AllByRecursion Whole ws → has items v ≡ true → has class_due (w ++ (behind 32 ws ++ 93 ∷ v)) ≡ true
class_shut w [] v h a r = due class_due inside_class w (93 ∷ v) refl refl h.0 h.1 ∙ r
class_shut w (u ∷ us) v h a r =
    due class_due inside_class w (32 ∷ ((u ++ behind 32 us) ++ 93 ∷ v)) refl refl h.0 h.1 ∙ ap (has class_due) (append_assoc u (behind 32 us) (93 ∷ v)) ∙ class_shut u us v a.0 a.1 r

class-fits : (cs : List ℕ) (v : List ℕ) → 0 < length cs → Codes cs → has items v ≡ true → has class_due ((codes_field cs ++ 93 ∷ []) ++ v) ≡ true
class-fits [] v l a r = absurd (omega arith)
class-fits (c ∷ cs) v l a r =
    let w = word_of (pos c) in
    let ws = words_of (map pos cs) in
    ap (has class_due) (append_assoc (w ++ behind 32 ws) (93 ∷ []) v ∙ append_assoc w (behind 32 ws) (93 ∷ v)) ∙ class_shut w ws v (whole Code (pos c) (code_keeps c a.0)) (each Whole Code (whole Code) (map pos cs) (codes-keep cs a.1)) r

code_fits : (s : Shape) (c : ℕ) (v : List ℕ) → Codes (c ∷ []) → has in_item v ≡ true → ((w : List ℕ) → Whole w → has s (w ++ v) ≡ has in_item v) → has s (codes_field (c ∷ []) ++ v) ≡ true
code_fits s c v l r turn = ap (λ x. has s (x ++ v)) (append-nil (word_of (pos c))) ∙ turn (word_of (pos c)) (whole Code (pos c) (code_keeps c l.0)) ∙ r

item-fits : (e : Entry) (v : List ℕ) → Lawful e → Follows v → has (parted item) (item_text e ++ v) ≡ true
item-fits (code c) v l r = code_fits (parted item) c v l r.0 (λ w h. due (parted item) in_item w v refl refl h.0 h.1)
item-fits any v l r = r.1
item-fits (one_of cs) v l r = class-fits cs v l.0 l.2 r.1

first_fits : (e : Entry) (v : List ℕ) → Lawful e → Follows v → has body (item_text e ++ v) ≡ true
first_fits (code c) v l r = code_fits body c v l r.0 (λ w h. due body in_item w v refl refl h.0 h.1)
first_fits any v l r = r.1
first_fits (one_of cs) v l r = class-fits cs v l.0 l.2 r.1

items_follow : (es : List Entry) → AllByRecursion Lawful es → Follows (behind 32 (map item_text es))
items_follow [] a = (refl, refl)
items_follow (e ∷ es) a = let h = item-fits e (behind 32 (map item_text es)) a.0 (items_follow es a.1) in (h, h)

pub body_shaped : (b : Option (List Entry)) → LawfulBody b → misfit body (body_text b) ≡ None
body_shaped None l = refl
body_shaped (Some []) l = absurd (omega (arith, l.0))
body_shaped (Some (e ∷ es)) l = fits body (item_text e ++ behind 32 (map item_text es)) (first_fits e (behind 32 (map item_text es)) l.2.0 (items_follow es l.2.1))
