-- The parts of a text, from left to right.
use Rattle.std.proofs.Common.{◌≡◌, ℕ, suc, ◌+◌, ◌-◌, ◌<◌, ◌≤◌, false, cond, eqb, List, [], ◌∷◌, ◌++◌, length, get_or, drop, take, sym, refl, subst, ap, ◌∙◌, inl, inr, arith}
use Rattle.std.proofs.lemmas.List.Edits.{get_or-between, length-between}
use Rattle.std.proofs.lemmas.List.{drop_more, get_or-drop, take-append-drop, drop-drop, length-drop, take_all}
use Rattle.std.proofs.lemmas.List.Splits.{slice_split-cons_no, slice_split-cons_yes}
use Rattle.std.proofs.lemmas.Bool.{cases_lt, eq-eqb, le-leb, lt-leb, ne_eqb}
use Rattle.std.specs.List.{between, onto_first}
use Rattle.parts.specs.Parts.{IsPart, Placed, left, parts, placed}

-- the byte does not stand in the text
abbrev pub Lacks : ℕ → List ℕ → Type 0
Lacks b [] = Unit {0}
Lacks b (x ∷ w) = (eqb x b ≡ false) × Lacks b w

pub parts_first : (b : ℕ) (u v : List ℕ) → Lacks b u → parts b (u ++ b ∷ v) ≡ u ∷ parts b v
parts_first b [] v h = slice_split-cons_yes (λ x. eqb x b) b v (eq-eqb b b refl)
parts_first b (x ∷ u) v h = slice_split-cons_no (λ y. eqb y b) x (u ++ b ∷ v) h.0 ∙ ap (onto_first x) (parts_first b u v h.1)

pub parts_last : (b : ℕ) (u : List ℕ) → Lacks b u → parts b u ≡ u ∷ []
parts_last b [] h = refl
parts_last b (x ∷ u) h = slice_split-cons_no (λ y. eqb y b) x u h.0 ∙ ap (onto_first x) (parts_last b u h.1)

lacks_from : (b : ℕ) (u : List ℕ) → ((k : ℕ) → k < length u → get_or u k 0 ≡ b → ⊥) → Lacks b u
lacks_from b [] h = tt
lacks_from b (x ∷ u) h = (ne_eqb x b (h 0 (omega arith)), lacks_from b u (λ k l. h (suc k) (omega arith)))

module _ (b : ℕ) (w : List ℕ) (i e : ℕ) (p : IsPart b w i e) where
  pub lacks-part : Lacks b (between i e w)
  lacks-part = lacks_from b (between i e w) (λ k lt eq.
      let small : i + k < e = omega (arith, length-between w i e p.within, p.from) in
      p.lacks (i + k) (omega arith) small (sym (get_or-between w i e k 0 small) ∙ eq))

  -- the part, and what is left behind the byte that ends it

  parts_cut : e < length w → parts b (drop i w) ≡ between i e w ∷ parts b (drop (e + 1) w)
  parts_cut l =
      let sum : i + (e - i) ≡ e = omega (arith, p.from) in
      let back : drop (e - i) (drop i w) ≡ b ∷ drop (e + 1) w = drop-drop (e - i) i w ∙ ap (λ x. drop x w) sum ∙ drop_more w e 0 l ∙ ap (λ x. x ∷ drop (e + 1) w) (p.ends l) in
      let all : drop i w ≡ between i e w ++ b ∷ drop (e + 1) w = sym (take-append-drop (e - i) (drop i w)) ∙ ap (λ x. between i e w ++ x) back in
      ap (parts b) all ∙ parts_first b (between i e w) (drop (e + 1) w) lacks-part

  parts-rest : length w ≤ e → parts b (drop i w) ≡ between i e w ∷ []
  parts-rest l =
      let all : between i e w ≡ drop i w = take_all (e - i) (drop i w) (omega (arith, length-drop i w, p.from)) in
      ap (parts b) (sym all) ∙ parts_last b (between i e w) lacks-part

  pub left_cut : left b w i ≡ between i e w ∷ left b w (e + 1)
  left_cut =
      let here : left b w i ≡ parts b (drop i w) = ap (λ t. cond t (parts b (drop i w)) []) (le-leb i (length w) (omega (arith, p.from, p.within))) in
      elim (cases_lt e (length w)) [
        | inl l ↦ here ∙ parts_cut l ∙ ap (λ t. between i e w ∷ cond t (parts b (drop (e + 1) w)) []) (sym (le-leb (e + 1) (length w) (omega arith)))
        | inr l ↦ here ∙ parts-rest l ∙ ap (λ t. between i e w ∷ cond t (parts b (drop (e + 1) w)) []) (sym (lt-leb (e + 1) (length w) (omega arith)))
      ]

  -- the same, each with its place
  pub placed_cut : placed i (left b w i) ≡ record { at = i; bytes = between i e w } ∷ placed (e + 1) (left b w (e + 1))
  placed_cut =
      let place : i + length (between i e w) + 1 ≡ e + 1 = omega (arith, length-between w i e p.within, p.from) in
      let first : Placed = record { at = i; bytes = between i e w } in
      ap (placed i) left_cut ∙ ap (λ x. first ∷ placed x (left b w (e + 1))) place

pub left_all : (b : ℕ) (w : List ℕ) → left b w 0 ≡ parts b w
left_all b w = ap (λ t. cond t (parts b w) []) (le-leb 0 (length w) (omega arith))

pub left-none : (b : ℕ) (w : List ℕ) (i : ℕ) → length w < i → left b w i ≡ []
left-none b w i h = ap (λ t. cond t (parts b (drop i w)) []) (lt-leb i (length w) h)

behind : (b : ℕ) (w : List ℕ) (i e : ℕ) → i ≤ length w → IsPart b (drop i w) 0 e → IsPart b w i (i + e)
behind b w i e h p =
    record {
      from = omega arith;
      within = omega (arith, length-drop i w, p.within);
      lacks = λ k l m eq. p.lacks (k - i) (omega arith) (omega arith) (get_or-drop i w (k - i) 0 ∙ ap (λ x. get_or w x 0) (omega arith) ∙ eq);
      ends = λ l. sym (get_or-drop i w e 0) ∙ p.ends (omega (arith, length-drop i w));
    }

-- the first part of what is left from a place on is the part at that place
pub part_behind : (b : ℕ) (w : List ℕ) (i e : ℕ) → i ≤ length w → IsPart b (take (length w - i) (drop i w)) 0 e → IsPart b w i (i + e)
part_behind b w i e h p =
    let all : take (length w - i) (drop i w) ≡ drop i w = take_all (length w - i) (drop i w) (omega (arith, length-drop i w)) in
    behind b w i e h (subst (λ x. IsPart b x 0 e) all p)
