-- What a call that writes a line leaves and answers.
use Rattle.std.specs.Prelude.{◌≡◌, ℕ, Bool, cond, List, ◌++◌, length, drop, Ok, Err, Result, nat_le}
use Rattle.refusal.specs.declared.Refusal.{Refusal}
use Rattle.refusal.specs.declared.Refusal.TheVariants.{ShortLine}

-- whether the bytes have room for the line
abbrev pub fits : List ℕ → List ℕ → Bool
fits line bytes = nat_le (length line) (length bytes)

-- `Written line before after r`  the line stands at the front, what was behind it stays, and the answer is its length;
-- or it does not fit: all bytes stay, and the answer is a refusal by 25
pub record Written (line before after : List ℕ) (r : Result ℕ Refusal) : Type 0 where
  pub bytes : after ≡ cond (fits line before) (line ++ drop (length line) before) before
  pub answer : r ≡ cond (fits line before) (Ok (length line)) (Err ShortLine)
