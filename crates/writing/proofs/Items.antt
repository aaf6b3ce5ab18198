-- Written bodies are read back item by item.
use Rattle.std.proofs.Common.{◌≡◌, ℕ, zero, suc, ◌+◌, ◌-◌, ◌<◌, ◌≤◌, Bool, true, false, cond, eqb, leb, List, [], ◌∷◌, ◌++◌, map, length, get_or, take, drop, pos, Some, None, Ok, Err, Option, Result, sym, refl, ap, ◌∙◌, subst, append_assoc, arith, length-append}
use Rattle.std.proofs.lemmas.List.{append-nil, get_or-append-add, take_all, take-append-le}
use Rattle.std.proofs.lemmas.Bool.{lt-leb, or_from}
use Rattle.std.specs.List.{AllByRecursion}
use Rattle.shape.specs.Kinds.{is_numeral}
use Rattle.parts.specs.Parts.{parts}
use Rattle.parts.proofs.Cuts.{Lacks, parts_first, parts_last}
use Rattle.word.specs.Numbers.{code_of}
use Rattle.word.specs.declared.limits.Limits.TheVariants.{Code}
use Rattle.body.specs.Bodies.{Reading, body_of, empty, full, go_on, inside_class, is_byte, items_in, opens, read_from, shuts, with_item}
use Rattle.body.specs.Entries.{Entry, any, code, one_of}
use Rattle.writing.specs.Bodies.{Lawful, LawfulBody, body_text, item_text}
use Rattle.writing.specs.Joined.{behind}
use Rattle.writing.specs.Lines.{Codes, codes_field}
use Rattle.writing.specs.Numerals.{word_of, words_of}
use Rattle.writing.proofs.Laws.{each, lacks}
use Rattle.writing.proofs.Lines.{code-back, code_keeps, codes-keep}
use Rattle.writing.proofs.Parting.{append-lacks, joined-lacks}

abbrev so : List Entry → Option (List ℕ) → Reading
so es cl = record { items = es; class = cl }

code-lacks : (b c : ℕ) → is_numeral b ≡ false → c ≤ 65535 → Lacks b (word_of (pos c))
code-lacks b c o h = lacks b o Code (pos c) (code_keeps c h)

-- tests of a part

never_both : (t : Bool) → cond t false false ≡ false
never_both true = refl
never_both false = refl

is_byte_not : (c : ℕ) (w : List ℕ) → Lacks c w → is_byte c w ≡ false
is_byte_not c [] h = refl
is_byte_not c (x ∷ w) h = ap (λ t. cond (eqb (length w) 0) t false) h.0 ∙ never_both (eqb (length w) 0)

lacks_at : (c : ℕ) (w : List ℕ) (i : ℕ) → eqb 0 c ≡ false → Lacks c w → eqb (get_or w i 0) c ≡ false
lacks_at c [] zero o h = o
lacks_at c [] (suc i) o h = o
lacks_at c (x ∷ w) zero o h = h.0
lacks_at c (x ∷ w) (suc i) o h = lacks_at c w i o h.1

less_one : (w : List ℕ) → length (w ++ 93 ∷ []) - 1 ≡ length w
less_one w = omega (arith, length-append w (93 ∷ []))

shuts_is : (w : List ℕ) → shuts (w ++ 93 ∷ []) ≡ true
shuts_is w = ap (λ x. eqb x 93) (ap (λ n. get_or (w ++ 93 ∷ []) n 0) (omega (arith, less_one w)) ∙ get_or-append-add w (93 ∷ []) 0 0)

without_last : (w : List ℕ) → take (length (w ++ 93 ∷ []) - 1) (w ++ 93 ∷ []) ≡ w
without_last w = ap (λ n. take n (w ++ 93 ∷ [])) (less_one w) ∙ take-append-le (length w) w (93 ∷ []) (omega arith) ∙ take_all (length w) w (omega arith)

-- the parts of a class

class_shut : (es : List Entry) (ds : List ℕ) (c : ℕ) → c ≤ 65535 → inside_class es ds (word_of (pos c) ++ 93 ∷ []) ≡ with_item es (one_of (ds ++ c ∷ []))
class_shut es ds c h =
    let w = word_of (pos c) in
    let p = w ++ 93 ∷ [] in
    ap (λ t. cond t (with_item es (one_of (ds ++ code_of (take (length p - 1) p) ∷ []))) (so es (Some (ds ++ code_of p ∷ [])))) (shuts_is w)
    ∙ ap (λ x. with_item es (one_of (ds ++ code_of x ∷ []))) (without_last w)
    ∙ ap (λ x. with_item es (one_of (ds ++ x ∷ []))) (code-back c h)

class-more : (es : List Entry) (ds : List ℕ) (c : ℕ) → c ≤ 65535 → inside_class es ds (word_of (pos c)) ≡ so es (Some (ds ++ c ∷ []))
class-more es ds c h =
    let w = word_of (pos c) in
    ap (λ t. cond t (with_item es (one_of (ds ++ code_of (take (length w - 1) w) ∷ []))) (so es (Some (ds ++ code_of w ∷ [])))) (lacks_at 93 w (length w - 1) refl (code-lacks 93 c refl h))
    ∙ ap (λ x. so es (Some (ds ++ x ∷ []))) (code-back c h)

-- a part that opens a class
class-opens : (es : List Entry) (q : List ℕ) → go_on es None (91 ∷ q) ≡ inside_class es [] q
class-opens es q = ap (λ t. cond t (with_item es any) (inside_class es [] q)) (never_both (eqb (length q) 0))

a_code : (es : List Entry) (c : ℕ) → c ≤ 65535 → go_on es None (word_of (pos c)) ≡ with_item es (code c)
a_code es c h =
    let w = word_of (pos c) in
    let rest = inside_class es [] (drop 1 w) in
    ap (λ t. cond t (with_item es any) (cond (opens w) rest (with_item es (code (code_of w))))) (is_byte_not 46 w (code-lacks 46 c refl h))
    ∙ ap (λ t. cond t rest (with_item es (code (code_of w)))) (lacks_at 91 w 0 refl (code-lacks 91 c refl h))
    ∙ ap (λ x. with_item es (code x)) (code-back c h)

-- what follows a text without spaces leaves it a part of its own
abbrev Cut : List ℕ → List (List ℕ) → Type 0
Cut v ps = (w : List ℕ) → Lacks 32 w → parts 32 (w ++ v) ≡ w ∷ ps

cut-end : Cut [] []
cut-end w h = ap (parts 32) (append-nil w) ∙ parts_last 32 w h

module _ (X : Result Reading ℕ) where
  -- what is left is read with the result X
  abbrev After : Reading → List (List ℕ) → Type 0
  After r ps = (at : ℕ) → read_from at (Ok r) ps ≡ X

  read_one : (es : List Entry) (cl : Option (List ℕ)) (p : List ℕ) (r : Reading) (ps : List (List ℕ)) → length es < 16 → full cl ≡ false → go_on es cl p ≡ r → After r ps → After (so es cl) (p ∷ ps)
  read_one es cl p r ps h f e k at =
      ap (λ t. read_from (at + length p + 1) (cond t (Err at) (Ok (go_on es cl p))) ps) (or_from (leb 16 (length es)) (full cl) (lt-leb 16 (length es) h) f) ∙ ap (λ x. read_from (at + length p + 1) (Ok x) ps) e ∙ k (at + length p + 1)

  class_read : (es : List Entry) (ds pre : List ℕ) (cl : Option (List ℕ)) (c : ℕ) (cs v : List ℕ) (ps : List (List ℕ)) → length es < 16 → Lacks 32 pre → full cl ≡ false → ((q : List ℕ) → go_on es cl (pre ++ q) ≡ inside_class es ds q) → Codes (c ∷ cs) → length ds + length (c ∷ cs) ≤ 8 → Cut v ps → After (with_item es (one_of (ds ++ c ∷ cs))) ps → After (so es cl) (parts 32 (pre ++ (word_of (pos c) ++ (behind 32 (words_of (map pos cs)) ++ 93 ∷ v))))
  class_read es ds pre cl c [] v ps h lp f going a room cut k =
      let w = word_of (pos c) in
      let whole : pre ++ (w ++ 93 ∷ v) ≡ (pre ++ (w ++ 93 ∷ [])) ++ v = sym (append_assoc pre (w ++ 93 ∷ []) v ∙ ap (λ x. pre ++ x) (append_assoc w (93 ∷ []) v)) in
      let lack : Lacks 32 (pre ++ (w ++ 93 ∷ [])) = append-lacks 32 pre (w ++ 93 ∷ []) lp (append-lacks 32 w (93 ∷ []) (code-lacks 32 c refl a.0) (refl, tt)) in
      subst (After (so es cl)) (sym (ap (parts 32) whole ∙ cut (pre ++ (w ++ 93 ∷ [])) lack)) (read_one es cl (pre ++ (w ++ 93 ∷ [])) (with_item es (one_of (ds ++ c ∷ []))) ps h f (going (w ++ 93 ∷ []) ∙ class_shut es ds c a.0) k)
  class_read es ds pre cl c (d ∷ cs) v ps h lp f going a room cut k =
      let w = word_of (pos c) in
      let u = word_of (pos d) in
      let us = words_of (map pos cs) in
      let next = u ++ (behind 32 us ++ 93 ∷ v) in
      let long = length-append ds (c ∷ []) in
      let lack : Lacks 32 (pre ++ w) = append-lacks 32 pre w lp (code-lacks 32 c refl a.0) in
      let cutting : parts 32 (pre ++ (w ++ 32 ∷ ((u ++ behind 32 us) ++ 93 ∷ v))) ≡ (pre ++ w) ∷ parts 32 next = ap (parts 32) (ap (λ x. pre ++ (w ++ 32 ∷ x)) (append_assoc u (behind 32 us) (93 ∷ v)) ∙ sym (append_assoc pre w (32 ∷ next))) ∙ parts_first 32 (pre ++ w) next lack in
      let more : After (so es (Some (ds ++ c ∷ []))) (parts 32 next) = class_read es (ds ++ c ∷ []) [] (Some (ds ++ c ∷ [])) d cs v ps h tt (lt-leb 8 (length (ds ++ c ∷ [])) (omega (arith, long))) (λ q. refl) a.1 (omega (arith, long)) cut (subst (λ x. After (with_item es (one_of x)) ps) (sym (append_assoc ds (c ∷ []) (d ∷ cs))) k) in
      subst (After (so es cl)) (sym cutting) (read_one es cl (pre ++ w) (so es (Some (ds ++ c ∷ []))) (parts 32 next) h f (going w ∙ class-more es ds c a.0) more)

  item_read : (es : List Entry) (e : Entry) (v : List ℕ) (ps : List (List ℕ)) → length es < 16 → Lawful e → Cut v ps → After (with_item es e) ps → After (so es None) (parts 32 (item_text e ++ v))
  item_read es (code c) v ps h l cut k =
      let w = word_of (pos c) in
      subst (After (so es None)) (sym (ap (λ x. parts 32 (x ++ v)) (append-nil w) ∙ cut w (code-lacks 32 c refl l.0))) (read_one es None w (with_item es (code c)) ps h refl (a_code es c l.0) k)
  item_read es any v ps h l cut k = subst (After (so es None)) (sym (cut (46 ∷ []) (refl, tt))) (read_one es None (46 ∷ []) (with_item es any) ps h refl refl k)
  item_read es (one_of []) v ps h l cut k = absurd (omega (arith, l.0))
  item_read es (one_of (c ∷ cs)) v ps h l cut k =
      let w = word_of (pos c) in
      let ws = words_of (map pos cs) in
      subst (λ x. After (so es None) (parts 32 (91 ∷ x))) (sym (append_assoc (w ++ behind 32 ws) (93 ∷ []) v ∙ append_assoc w (behind 32 ws) (93 ∷ v))) (class_read es [] (91 ∷ []) None c cs v ps h (refl, tt) refl (class-opens es) l.2 (omega (arith, l.1)) cut k)

  items_read : (done : List Entry) (e : Entry) (es : List Entry) → length done + length (e ∷ es) ≤ 16 → AllByRecursion Lawful (e ∷ es) → Ok (so (done ++ e ∷ es) None) ≡ X → After (so done None) (parts 32 (item_text e ++ behind 32 (map item_text es)))
  items_read done e [] room a fin = item_read done e [] [] (omega arith) a.0 cut-end (λ at. fin)
  items_read done e (f ∷ fs) room a fin =
      let next = item_text f ++ behind 32 (map item_text fs) in
      item_read done e (32 ∷ next) (parts 32 next) (omega arith) a.0 (λ w h. parts_first 32 w next h) (items_read (done ++ e ∷ []) f fs (omega (arith, length-append done (e ∷ []))) a.1 (ap (λ x. Ok (so x None)) (append_assoc done (e ∷ []) (f ∷ fs)) ∙ fin))

-- a byte that stands in no body
pub record Foreign (b : ℕ) : Type 0 where
  pub numeral : is_numeral b ≡ false
  pub space : eqb 32 b ≡ false
  pub dot : eqb 46 b ≡ false
  pub opening : eqb 91 b ≡ false
  pub shutting : eqb 93 b ≡ false

module _ (b : ℕ) (o : Foreign b) where
  pub codes_lack : (cs : List ℕ) → Codes cs → Lacks b (codes_field cs)
  codes_lack [] a = tt
  codes_lack (c ∷ cs) a = joined-lacks b 32 o.space (word_of (pos c)) (words_of (map pos cs)) (code-lacks b c o.numeral a.0) (each (Lacks b) Code (lacks b o.numeral Code) (map pos cs) (codes-keep cs a.1))

  item-lacks : (e : Entry) → Lawful e → Lacks b (item_text e)
  item-lacks (code c) l = codes_lack (c ∷ []) l
  item-lacks any l = (o.dot, tt)
  item-lacks (one_of cs) l = (o.opening, append-lacks b (codes_field cs) (93 ∷ []) (codes_lack cs l.2) (o.shutting, tt))

  items_lack : (es : List Entry) → AllByRecursion Lawful es → AllByRecursion (Lacks b) (map item_text es)
  items_lack [] a = tt
  items_lack (e ∷ es) a = (item-lacks e a.0, items_lack es a.1)

  body-lacks : (e : Entry) (es : List Entry) → AllByRecursion Lawful (e ∷ es) → Lacks b (body_text (Some (e ∷ es)))
  body-lacks e es a = joined-lacks b 32 o.space (item_text e) (map item_text es) (item-lacks e a.0) (items_lack es a.1)

-- nor in what stands where there is no body
pub text_lacks : (b : ℕ) → Foreign b → eqb 42 b ≡ false → (x : Option (List Entry)) → LawfulBody x → Lacks b (body_text x)
text_lacks b o star None l = (star, tt)
text_lacks b o star (Some []) l = tt
text_lacks b o star (Some (e ∷ es)) l = body-lacks b o e es l.2

pub body_back : (b : Option (List Entry)) → LawfulBody b → body_of (body_text b) ≡ Ok b
body_back None l = refl
body_back (Some []) l = absurd (omega (arith, l.0))
body_back (Some (e ∷ es)) l =
    let w = body_text (Some (e ∷ es)) in
    ap (λ t. cond t (Ok None) (items_in (read_from 0 (Ok empty) (parts 32 w)))) (is_byte_not 42 w (body-lacks 42 (record { numeral = refl; space = refl; dot = refl; opening = refl; shutting = refl }) e es l.2))
    ∙ ap items_in (items_read (Ok (so (e ∷ es) None)) [] e es (omega (arith, l.1)) l.2 refl 0)
