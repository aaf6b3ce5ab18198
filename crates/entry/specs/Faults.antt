-- Why a value of a book is not made: the checks of each call, in their order.
use Rattle.std.specs.Prelude.{ℕ, ◌+◌, Bool, not, ◌||◌, List, ℤ, pos, negsuc, None, Option, ◌==◌, int_lt, nat_lt}
use Rattle.refusal.specs.Checks.{refuse}
use Rattle.refusal.specs.declared.Refusal.{Refusal}
use Rattle.refusal.specs.declared.Refusal.TheVariants.{BadName, BadNumber, BadShape, BackwardRange, TooMany}
use Rattle.entry.specs.Names.{is_name}

abbrev pub name_fault : List ℕ → Option Refusal
name_fault bytes = refuse (not (is_name bytes)) BadName None

-- `size_fault n most`  n entries where there are 1 to `most`
abbrev pub size_fault : ℕ → ℕ → Option Refusal
size_fault n most = refuse (n == 0) BadShape (refuse (nat_lt most n) TooMany None)

-- outside -2,000 to 2,000
abbrev pub outside : ℤ → Bool
outside z = int_lt z (negsuc 1999) || int_lt (pos 2000) z

abbrev pub range_fault : ℤ → ℤ → Option Refusal
range_fault low high = refuse (outside low) BadNumber (refuse (outside high) BadNumber (refuse (int_lt high low) BackwardRange None))

-- `rule_fault m g`  m motifs with g ranges: one range between neighbours, and at most 12 motifs
abbrev pub rule_fault : ℕ → ℕ → Option Refusal
rule_fault m g = refuse (not (m == g + 1)) BadShape (refuse (nat_lt 12 m) TooMany None)
