-- The stretches of a strip, and what each box of the ink reads under a show of the first m of them.
use Rattle.std.specs.Prelude.{◌≡◌, ℕ, zero, suc, ◌+◌, ◌-◌, ◌*◌, ◌<◌, Bool, cond, ◌&&◌, List, length, nat_le, nat_lt, slice_index}

-- `start_of strip k`     where stretch k starts, from 0
abbrev pub start_of : List ℕ → ℕ → ℕ
start_of strip k = slice_index strip (2 * k)

-- `end_of strip k`       where it ends
abbrev pub end_of : List ℕ → ℕ → ℕ
end_of strip k = slice_index strip (2 * k + 1)

-- `covers strip k i`    it covers box i
abbrev pub covers : List ℕ → ℕ → ℕ → Bool
covers strip k i = nat_le (start_of strip k) i && nat_lt i (end_of strip k)

-- `reads strip m i b`   what box i reads: the number, from 1, of the last of the first m stretches that covers it, else its byte b
abbrev pub reads : List ℕ → ℕ → ℕ → ℕ → ℕ
reads strip zero i b = b
reads strip (suc m) i b = cond (covers strip m i) (m + 1) (reads strip m i b)

-- `boxes strip m`       how many boxes the first m stretches have, repeats counted
abbrev pub boxes : List ℕ → ℕ → ℕ
boxes strip zero = 0
boxes strip (suc m) = boxes strip m + (end_of strip m - start_of strip m)

-- ys is the ink xs under a show
abbrev pub Shown : List ℕ → ℕ → List ℕ → List ℕ → Type 0
Shown strip m xs ys = (i : ℕ) → i < length xs → slice_index ys i ≡ reads strip m i (slice_index xs i)
