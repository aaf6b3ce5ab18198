-- Numbers read digit by digit, and kept within limits.
use Rattle.std.proofs.Common.{◌≡◌, ℕ, ◌+◌, ◌-◌, ◌*◌, ◌<◌, ◌≤◌, Bool, true, false, cond, ◌&&◌, eqb, leb, List, [], ◌∷◌, length, get_or, drop, ℤ, pos, negsuc, neg_ℤ, ◌≤ℤ◌, ◌<ℤ◌, Some, None, Option, MatchOption, sym, refl, ap, ◌∙◌, subst, inl, inr, arith}
use lib.Signed.{le_z}
use Rattle.std.specs.Bool.{then_some}
use Rattle.std.proofs.lemmas.Int.{ints}
use Rattle.std.proofs.lemmas.List.{at_drop_more}
use Rattle.std.proofs.lemmas.Bool.{and_from, and_left, and_parts, and_right, cases_lt, le-leb, leb-true, ne_eqb}
use Rattle.std.proofs.lemmas.Str.{digit_value_digit}
use Rattle.std.proofs.lemmas.Str.Parse.{IsNumeralModel, numerals_by_value, tells_all_ascii_digits}
use Rattle.std.specs.Char.{digit_value, is_ascii_digit}
use Rattle.std.specs.Option.{option_map}
use Rattle.std.specs.Str.{all_ascii_digits}
use Rattle.std.specs.Str.Parse.{digits_value, digits_value_after}
use Rattle.word.specs.Numbers.{highest, kept, leads, lowest, plain, written}
use Rattle.word.specs.declared.limits.Limits.{Limits}
use Rattle.word.specs.declared.limits.Limits.TheVariants.{Code, Shift, Place}

pub leads_is : (ds : List ℕ) → 0 < length ds → 49 ≤ get_or ds 0 0 → leads ds ≡ true
leads_is [] k h = absurd (omega arith)
leads_is (b ∷ bs) k h = le-leb 49 b h

-- a number at most a million away from 0
abbrev pub near : Option ℤ → Option ℤ
near o = kept (negsuc 999999) (pos 1000000) o

pub kept_in : (low high v : ℤ) → low ≤ℤ v → v ≤ℤ high → kept low high (Some v) ≡ Some v
kept_in low high v l h = ap (λ x. then_some x v) (and_from (le_z low v) (le_z v high) (sym (omega (arith, ints))) (sym (omega (arith, ints))))

pub kept_above : (low high v : ℤ) → high <ℤ v → kept low high (Some v) ≡ None
kept_above low high v h = ap (λ x. then_some x v) (and_right (le_z low v) (le_z v high) (grind (arith, ints)))

pub kept-below : (low high v : ℤ) → v <ℤ low → kept low high (Some v) ≡ None
kept-below low high v h = ap (λ x. then_some x v) (and_left (le_z low v) (le_z v high) (grind (arith, ints)))

-- what is kept by a test of the limits
pub kept_by : (o r : Option ℤ) (low high : ℤ) (P : ℤ → Bool → Type 0) → ((v : ℤ) (t : Bool) → P v t → t ≡ (le_z low v && le_z v high)) → MatchOption o (r ≡ None) (λ v. (t : Bool) × P v t × (r ≡ then_some t v)) → r ≡ kept low high o
kept_by None r low high P f h = h
kept_by (Some v) r low high P f h = h.2 ∙ ap (λ t. then_some t v) (f v h.0 h.1)

-- limits that fit leave out what does not
pub kept-near : (low high : ℤ) (o : Option ℤ) → negsuc 999999 ≤ℤ low → high ≤ℤ pos 1000000 → kept low high (near o) ≡ kept low high o
kept-near low high None l h = refl
kept-near low high (Some v) l h = out (le_z low v && le_z v high) refl
  where
    out : (t : Bool) → (le_z low v && le_z v high) ≡ t → kept low high (near (Some v)) ≡ kept low high (Some v)
    out false k = elim (le_z (negsuc 999999) v && le_z v (pos 1000000)) as (λ t. kept low high (then_some t v) ≡ then_some (le_z low v && le_z v high) v) [ true ↦ refl | false ↦ sym (ap (λ t. then_some t v) k) ]
    out true k =
        let p = and_parts (le_z low v) (le_z v high) k in
        let a : low ≤ℤ v = omega (arith, ints, sym p.0) in
        let b : v ≤ℤ high = omega (arith, ints, sym p.1) in
        ap (kept low high) (kept_in (negsuc 999999) (pos 1000000) v (omega (arith, ints)) (omega (arith, ints)))

-- the widest limits
pub widest : (m : Limits) → (negsuc 999999 ≤ℤ lowest m) × (highest m ≤ℤ pos 1000000)
widest Code = (omega (arith, ints), omega (arith, ints))
widest Shift = (omega (arith, ints), omega (arith, ints))
widest Place = (omega (arith, ints), omega (arith, ints))

pub kept_bounds : (low high v : ℤ) (o : Option ℤ) → Some v ≡ kept low high o → (low ≤ℤ v) × (v ≤ℤ high)
kept_bounds low high v None e = cc
kept_bounds low high v (Some u) e = held (le_z low u && le_z u high) refl e
  where
    held : (t : Bool) → (le_z low u && le_z u high) ≡ t → Some v ≡ then_some t u → (low ≤ℤ v) × (v ≤ℤ high)
    held false k e = cc
    held true k e =
        let same : u ≡ v = cc in
        let p = and_parts (le_z low u) (le_z u high) k in
        (subst (λ x. low ≤ℤ x) same (omega (arith, ints, sym p.0)), subst (λ x. x ≤ℤ high) same (omega (arith, ints, sym p.1)))

-- digits read one by one

pub own : IsNumeralModel (λ ds. all_ascii_digits ds ≡ true) (digits_value 10)
own = numerals_by_value (λ ds. all_ascii_digits ds ≡ true) tells_all_ascii_digits

pub decimal_ge : (n : ℕ) (bs : List ℕ) → n ≤ digits_value_after 10 n bs
decimal_ge n [] = omega arith
decimal_ge n (b ∷ bs) = omega (arith, decimal_ge (n * 10 + digit_value b) bs)

-- one digit more: what is left writes the number
pub decimal-more : (ds : List ℕ) (i n : ℕ) → i < length ds → is_ascii_digit (get_or ds i 0) ≡ true → digits_value_after 10 n (drop i ds) ≡ digits_value 10 ds → digits_value_after 10 (n * 10 + (get_or ds i 0 - 48)) (drop (i + 1) ds) ≡ digits_value 10 ds
decimal-more ds i n h d e =
    let b = get_or ds i 0 in
    let k = and_parts (leb 48 b) (leb b 57) d in
    ap (λ m. digits_value_after 10 m (drop (i + 1) ds)) (omega (arith, digit_value_digit b (leb-true 48 b k.0, leb-true b 57 k.1)))
    ∙ sym (at_drop_more (digits_value_after 10 n) ds i 0 h) ∙ e

-- a number from 0 to a million
abbrev pub small : Option ℕ → Option ℤ
small o = kept (pos 0) (pos 1000000) (option_map pos o)

pub plain-far : (ds : List ℕ) → 1000000 < digits_value 10 ds → None ≡ small (plain ds)
plain-far ds h = far (leads ds && all_ascii_digits ds)
  where
    far : (t : Bool) → None ≡ small (then_some t (digits_value 10 ds))
    far true = sym (kept_above (pos 0) (pos 1000000) (pos (digits_value 10 ds)) (omega (arith, ints)))
    far false = refl

-- the forms of a word

abbrev pub negated : Option ℤ → Option ℤ
negated o = option_map neg_ℤ o

pub minus-near : (o : Option ℕ) → negated (small o) ≡ near (option_map (λ n. neg_ℤ (pos n)) o)
minus-near None = refl
minus-near (Some n) =
    elim (cases_lt 1000000 n) [
      | inl h ↦ ap negated (kept_above (pos 0) (pos 1000000) (pos n) (omega (arith, ints))) ∙ sym (kept-below (negsuc 999999) (pos 1000000) (neg_ℤ (pos n)) (omega (arith, ints)))
      | inr h ↦ ap negated (kept_in (pos 0) (pos 1000000) (pos n) (omega (arith, ints)) (omega (arith, ints))) ∙ sym (kept_in (negsuc 999999) (pos 1000000) (neg_ℤ (pos n)) (omega (arith, ints)) (omega (arith, ints)))
    ]

-- what a word writes, by its first byte
pub written-plain : (ds : List ℕ) → leads ds ≡ true → written ds ≡ option_map pos (plain ds)
written-plain [] l = cc
written-plain (b ∷ bs) l =
    let big = leb-true 49 b l in
    ap (λ t. cond t (then_some (eqb (length bs) 0) (pos 0)) (cond (eqb b 45) (option_map (λ n. neg_ℤ (pos n)) (plain bs)) (option_map pos (plain (b ∷ bs))))) (ne_eqb b 48 (λ e. omega arith))
    ∙ ap (λ t. cond t (option_map (λ n. neg_ℤ (pos n)) (plain bs)) (option_map pos (plain (b ∷ bs)))) (ne_eqb b 45 (λ e. omega arith))
