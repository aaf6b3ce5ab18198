-- Why a show is refused: the checks of its test, in their order.
use Rattle.std.specs.Prelude.{ℕ, zero, suc, Bool, true, not, ◌&&◌, List, length, None, Option, nat_le, nat_lt}
use Rattle.refusal.specs.Checks.{refuse}
use Rattle.refusal.specs.declared.Refusal.{Refusal}
use Rattle.refusal.specs.declared.Refusal.TheVariants.{ShortStrip, BadShow}
use Rattle.show.specs.Stretches.{start_of, end_of, boxes}

-- `passes strip n k`    stretch k doesn't start behind its end nor end behind an ink of n boxes, and brings the boxes to at most 64
abbrev pub passes : List ℕ → ℕ → ℕ → Bool
passes strip n k = nat_le (start_of strip k) (end_of strip k) && (nat_le (end_of strip k) n && nat_le (boxes strip (suc k)) 64)

-- `pass_all strip n m`   the first m stretches do
abbrev pub pass_all : List ℕ → ℕ → ℕ → Bool
pass_all strip n zero = true
pass_all strip n (suc m) = pass_all strip n m && passes strip n m

abbrev pub show_fault : List ℕ → ℕ → ℕ → Option Refusal
show_fault strip m n = refuse (nat_lt (length strip) 24) ShortStrip (refuse (not (nat_le 1 m && (nat_le m 12 && pass_all strip n m))) BadShow None)
