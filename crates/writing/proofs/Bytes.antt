-- The bytes of texts that have only digits and minus signs.
use Rattle.std.proofs.Common.{◌≡◌, ℕ, suc, ◌+◌, ◌^◌, ◌<◌, Bool, true, false, cond, eqb, List, [], ◌∷◌, length, ℤ, pos, negsuc, decimal as figures, sym, refl, ap, ◌∙◌, arith}
use lib.Signed.{mag}
use Rattle.std.proofs.lemmas.Fmt.{decimal_nonempty}
use Rattle.std.proofs.lemmas.Bool.{and_from, and_parts, both_ways, ne_eqb, or_left}
use Rattle.std.specs.Char.{is_ascii_digit}
use Rattle.std.specs.List.{list_all}
use Rattle.std.specs.Str.{all_ascii_digits}
use Rattle.shape.specs.Kinds.{is_numeral}
use Rattle.parts.specs.Parts.{tally}
use Rattle.parts.proofs.Cuts.{Lacks}
use Rattle.parts.proofs.Tallies.{tally-cons}
use Rattle.writing.specs.Numerals.{word_of}
use Rattle.writing.proofs.Words.{figures_digits}

-- the text has only digits and minus signs
abbrev pub Plain : List ℕ → Type 0
Plain w = list_all is_numeral w ≡ true

pub plain-first : (b : ℕ) (w : List ℕ) → Plain (b ∷ w) → is_numeral b ≡ true
plain-first b w h = (and_parts (is_numeral b) (list_all is_numeral w) h).0

pub plain-rest : (b : ℕ) (w : List ℕ) → Plain (b ∷ w) → Plain w
plain-rest b w h = (and_parts (is_numeral b) (list_all is_numeral w) h).1

from_digits : (ds : List ℕ) → all_ascii_digits ds ≡ true → Plain ds
from_digits [] h = refl
from_digits (b ∷ ds) h =
    let k = and_parts (is_ascii_digit b) (all_ascii_digits ds) h in
    and_from (is_numeral b) (list_all is_numeral ds) (or_left (is_ascii_digit b) (eqb b 45) k.0) (from_digits ds k.1)

pub word-plain : (z : ℤ) → mag z < 2 ^ 63 → Plain (word_of z)
word-plain (pos n) h = from_digits (figures n) (figures_digits n (omega arith))
word-plain (negsuc n) h = from_digits (figures (suc n)) (figures_digits (suc n) (omega arith))

pub word_some : (z : ℤ) → mag z < 2 ^ 63 → 0 < length (word_of z)
word_some (pos n) h = decimal_nonempty n (omega arith)
word_some (negsuc n) h = omega arith

-- a byte that fails a test is none of those that pass it
module _ (test : ℕ → Bool) where
  pub other : (b c : ℕ) → test b ≡ true → test c ≡ false → eqb b c ≡ false
  other b c h o = ne_eqb b c (λ e. both_ways (test c) o (ap test (sym e) ∙ h))

  pub every-lacks : (c : ℕ) (w : List ℕ) → test c ≡ false → list_all test w ≡ true → Lacks c w
  every-lacks c [] o h = tt
  every-lacks c (b ∷ w) o h = let k = and_parts (test b) (list_all test w) h in (other b c k.0 o, every-lacks c w o k.1)

pub lacks-tally : (c : ℕ) (w : List ℕ) → Lacks c w → tally c w ≡ 0
lacks-tally c [] h = refl
lacks-tally c (b ∷ w) h = tally-cons c b w ∙ ap (λ t. tally c w + cond t 1 0) h.0 ∙ omega (arith, lacks-tally c w h.1)
