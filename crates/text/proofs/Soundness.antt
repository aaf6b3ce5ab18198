-- What a line without fault says is sound.
use Rattle.std.proofs.Common.{◌≡◌, ℕ, ◌+◌, ◌≤◌, Bool, true, false, cond, not, eqb, leb, List, [], ◌∷◌, length, drop, ℤ, pos, Some, None, Option, refl, arith}
use Rattle.std.proofs.lemmas.Int.{ints}
use Rattle.std.proofs.lemmas.List.{length-drop}
use Rattle.std.specs.List.{onto_first}
use Rattle.refusal.specs.Checks.{refuse, refused_by}
use Rattle.entry.specs.Names.{is_name}
use Rattle.parts.specs.Parts.{left, parts, tally}
use Rattle.shape.specs.Follow.{misfit}
use Rattle.shape.specs.Grammar.{shape_of}
use Rattle.shape.specs.declared.Form.TheVariants.{Number, Body, Net}
use Rattle.word.specs.Faults.{raised}
use Rattle.word.specs.Numbers.{counted, number_of, place_of, written}
use Rattle.word.specs.declared.limits.Limits.TheVariants.{Code, Shift, Place}
use Rattle.word.specs.declared.faults.WordFault.TheVariants.{BadName}
use Rattle.word.proofs.Figures.{kept_bounds}
use Rattle.body.specs.Bodies.{body_of}
use Rattle.net.specs.Tokens.{names_over, net_tokens}
use Rattle.line.specs.Fields.{Placed, commas_of, fields, kind_in, placed}
use Rattle.line.specs.Lines.{◌else◌, backward_range, bad_letters, bad_name, bad_number, bad_shape, fields_fault, in_word, kind_fault, line_fault, too_many_items, too_many_names}
use Rattle.line.specs.Said.{line_says, says_by}
use Rattle.line.specs.declared.kinds.Kind.{Kind}
use Rattle.line.specs.declared.kinds.Kind.TheVariants.{Motif, Rule, Boxes, Mark}
use Rattle.line.specs.declared.faults.LineFault.TheVariants.{BadShape, TooMany, WrongCommas}
use Rattle.text.specs.Sound.{Sound}

apart : {X Y : Type 0} {x : X} → Some x ≡ None → Y
apart e = let z : ◌≡◌ {A = ℕ} 0 1 = cc in absurd (omega arith)

-- where a chain of checks finds nothing, each of them does

else_left : {E : Type 0} (x y : Option E) → (x else y) ≡ None → x ≡ None
else_left None y h = refl
else_left (Some e) y h = apart h

else_right : {E : Type 0} (x y : Option E) → (x else y) ≡ None → y ≡ None
else_right None y h = h
else_right (Some e) y h = apart h

refuse-right : {E : Type 0} (t : Bool) (e : E) (y : Option E) → refuse t e y ≡ None → y ≡ None
refuse-right true e y h = apart h
refuse-right false e y h = h

raised-none : {E : Type 0} (f : ℕ → E) (at : ℕ) (o : Option ℕ) → raised f at o ≡ None → o ≡ None
raised-none f at None h = refl
raised-none f at (Some q) h = apart h

named : (f : Placed) → bad_name f ≡ None → is_name f.bytes ≡ true
named f h = by (is_name f.bytes) h
  where
    by : (t : Bool) → in_word (refuse (not t) (BadName f.at) None) ≡ None → t ≡ true
    by true h = refl
    by false h = apart h

-- no field is longer than its line

abbrev Short : ℕ → List Placed → Type 0
Short n [] = Unit {0}
Short n (f ∷ fs) = (length f.bytes ≤ n) × Short n fs

abbrev ShortParts : ℕ → List (List ℕ) → Type 0
ShortParts n [] = Unit {0}
ShortParts n (p ∷ ps) = (length p ≤ n) × ShortParts n ps

longer : (n m : ℕ) (ps : List (List ℕ)) → n ≤ m → ShortParts n ps → ShortParts m ps
longer n m [] h s = tt
longer n m (p ∷ ps) h s = (omega (arith, s.0), longer n m ps h s.1)

short-before : (t : Bool) (x n : ℕ) (ps : List (List ℕ)) → ShortParts n ps → ShortParts (n + 1) (cond t ([] ∷ ps) (onto_first x ps))
short-before true x n ps s = (omega arith, longer n (n + 1) ps (omega arith) s)
short-before false x n [] s = (omega arith, tt)
short-before false x n (p ∷ ps) s = (omega (arith, s.0), longer n (n + 1) ps (omega arith) s.1)

short-parts : (b : ℕ) (w : List ℕ) (n : ℕ) → length w ≤ n → ShortParts n (parts b w)
short-parts b [] n h = (omega arith, tt)
short-parts b (x ∷ w) n h = longer (length w + 1) n (parts b (x ∷ w)) (omega arith) (short-before (eqb x b) x (length w) (parts b w) (short-parts b w (length w) (omega arith)))

short-left : (t : Bool) (w : List ℕ) (n : ℕ) → length w ≤ n → ShortParts n (cond t (parts 44 w) [])
short-left true w n h = short-parts 44 w n h
short-left false w n h = tt

short-placed : (n at : ℕ) (ps : List (List ℕ)) → ShortParts n ps → Short n (placed at ps)
short-placed n at [] s = tt
short-placed n at (p ∷ ps) s = (s.0, short-placed n (at + length p + 1) ps s.1)

short-fields : (l : List ℕ) (n : ℕ) → length l ≤ n + 2 → Short n (fields l)
short-fields l n h = short-placed n 2 (left 44 l 2) (short-left (leb 2 (length l)) (drop 2 l) n (omega (arith, length-drop 2 l)))

-- a start or an end keeps its limits
pub place-bound : (w : List ℕ) → place_of w ≤ 20000
place-bound w = by (number_of Place w) refl
  where
    by : (o : Option ℤ) → o ≡ number_of Place w → counted o ≤ 20000
    by None e = omega arith
    by (Some v) e = let b = kept_bounds (pos 0) (pos 20000) v (written w) e in omega (arith, ints, b.0, b.1)

judged : (n : ℕ) (k : Kind) (fs : List Placed) → Short n fs → fields_fault k fs ≡ None → Sound n (says_by (Some k) fs)
judged n k [] s h = tt
judged n Motif (f ∷ []) s h = tt
judged n Motif (f ∷ w ∷ []) s h = tt
judged n Motif (f ∷ w ∷ b ∷ fs) s h =
    let h1 = else_right (bad_name f) _ h in
    let h2 = else_right (bad_number Code w) _ h1 in
    let h3 = else_right (bad_number Code b) _ h2 in
    let h4 = else_right (bad_shape Number w) _ h3 in
    let h5 = else_right (bad_shape Body b) (too_many_items b) h4 in
    (named f (else_left (bad_name f) _ h), raised-none TooMany b.at (refused_by (body_of b.bytes)) h5)
judged n Rule (f ∷ []) s h = tt
judged n Rule (f ∷ t ∷ fs) s h =
    let h1 = else_right (bad_name f) _ h in
    let h2 = else_right (bad_letters t) _ h1 in
    let h3 = else_right (bad_number Shift t) _ h2 in
    let h4 = else_right (bad_shape Net t) _ h3 in
    let h5 = else_right (backward_range t) (too_many_names t) h4 in
    record {
      named = named f (else_left (bad_name f) _ h);
      shaped = raised-none BadShape t.at (misfit (shape_of Net) t.bytes) (else_left (bad_shape Net t) _ h3);
      few = raised-none TooMany t.at (names_over 0 (net_tokens t.bytes)) h5;
      short = s.1.0;
    }
judged n Boxes (c ∷ fs) s h = s.0
judged n Mark (f ∷ []) s h = tt
judged n Mark (f ∷ a ∷ []) s h = tt
judged n Mark (f ∷ a ∷ b ∷ fs) s h = (place-bound a.bytes, place-bound b.bytes)

pub sound : (l : List ℕ) (n : ℕ) → length l ≤ n + 2 → line_fault l ≡ None → Sound n (line_says l)
sound l n s h = by (kind_in l) h
  where
    by : (k : Option Kind) → kind_fault k l ≡ None → Sound n (says_by k (fields l))
    by None e = tt
    by (Some k) e = judged n k (fields l) (short-fields l n s) (refuse-right (not (eqb (tally 44 l) (commas_of k))) (WrongCommas (length l)) (fields_fault k (fields l)) e)
