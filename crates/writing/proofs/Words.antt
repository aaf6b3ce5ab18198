-- The word of a number is read back.
use Rattle.std.proofs.Common.{◌≡◌, ℕ, zero, suc, ◌^◌, ◌<◌, ◌≤◌, true, ℤ, pos, negsuc, neg_ℤ, Some, decimal as figures, ap, ◌∙◌, arith}
use lib.Signed.{mag}
use Rattle.std.proofs.lemmas.Fmt.{decimal_digit, decimal_nonempty, digits_decimal, first_decimal, digits_value-decimal}
use Rattle.std.proofs.lemmas.Int.{ints}
use Rattle.std.proofs.lemmas.Bool.{and_from}
use Rattle.std.specs.Bool.{then_some}
use Rattle.std.specs.Option.{option_map}
use Rattle.std.specs.Str.{all_ascii_digits}
use Rattle.std.specs.Str.Parse.{digits_value}
use Rattle.word.specs.Numbers.{highest, kept, leads, lowest, number_of, plain, written}
use Rattle.word.specs.declared.limits.Limits.{Limits}
use Rattle.word.specs.declared.limits.Limits.TheVariants.{Code, Shift, Place}
use Rattle.word.proofs.Figures.{kept_in, leads_is, own, written-plain}
use Rattle.writing.specs.Numerals.{Keeps, word_of}

-- the digits of a number

pub figures_digits : (n : ℕ) → n < 2 ^ 64 → all_ascii_digits (figures n) ≡ true
figures_digits n h = digits_decimal own n h

figures_lead : (n : ℕ) → 0 < n → n < 2 ^ 64 → leads (figures n) ≡ true
figures_lead n some h = leads_is (figures n) (decimal_nonempty n h) (first_decimal n some h)

figures_plain : (n : ℕ) → 0 < n → n < 2 ^ 64 → plain (figures n) ≡ Some n
figures_plain n some h =
    ap (λ t. then_some t (digits_value 10 (figures n))) (and_from (leads (figures n)) (all_ascii_digits (figures n)) (figures_lead n some h) (figures_digits n h)) ∙ ap Some (digits_value-decimal own n h)

pub written-word : (z : ℤ) → mag z < 2 ^ 63 → written (word_of z) ≡ Some z
written-word (pos zero) h = ap written (decimal_digit 0 (omega arith))
written-word (pos (suc n)) h = written-plain (figures (suc n)) (figures_lead (suc n) (omega arith) (omega arith)) ∙ ap (option_map pos) (figures_plain (suc n) (omega arith) (omega arith))
written-word (negsuc n) h = ap (option_map (λ k. neg_ℤ (pos k))) (figures_plain (suc n) (omega arith) (omega arith))

-- no limit lies further than this
pub near : (m : Limits) (z : ℤ) → Keeps m z → mag z < 2 ^ 63
near Code (pos n) k = let h : n ≤ 65535 = omega (arith, ints, k.1) in omega arith
near Code (negsuc n) k = absurd (omega (arith, ints, k.0))
near Shift (pos n) k = let h : n ≤ 2000 = omega (arith, ints, k.1) in omega arith
near Shift (negsuc n) k = let h : n ≤ 1999 = omega (arith, ints, k.0) in omega arith
near Place (pos n) k = let h : n ≤ 20000 = omega (arith, ints, k.1) in omega arith
near Place (negsuc n) k = absurd (omega (arith, ints, k.0))

pub back : (m : Limits) (z : ℤ) → Keeps m z → number_of m (word_of z) ≡ Some z
back m z k = ap (kept (lowest m) (highest m)) (written-word z (near m z k)) ∙ kept_in (lowest m) (highest m) z k.0 k.1
