-- What a show leaves at its end: the saved bytes are put back, the last stretch's first.
use Rattle.std.specs.Prelude.{ℕ, zero, suc, ◌+◌, ◌-◌, min, List, drop}
use Rattle.std.proofs.Math.Seq.{paste}
use Rattle.show.specs.Stretches.{start_of, end_of}

-- `end_in strip n k`     where stretch k ends in an ink of n boxes
abbrev pub end_in : List ℕ → ℕ → ℕ → ℕ
end_in strip n k = min (end_of strip k) n

-- `start_in strip n k`   where it starts there
abbrev pub start_in : List ℕ → ℕ → ℕ → ℕ
start_in strip n k = min (start_of strip k) (end_in strip n k)

-- `kept_by strip n m`    how many bytes the first m stretches save there
abbrev pub kept_by : List ℕ → ℕ → ℕ → ℕ
kept_by strip n zero = 0
kept_by strip n (suc m) = kept_by strip n m + (end_in strip n m - start_in strip n m)

-- `undone strip n saved m xs`  an ink xs of n boxes with the bytes back that the first m stretches saved
abbrev pub undone : List ℕ → ℕ → List ℕ → ℕ → List ℕ → List ℕ
undone strip n saved zero xs = xs
undone strip n saved (suc m) xs =
    undone strip n saved m (paste xs (start_in strip n m) (drop (kept_by strip n m) saved) (end_in strip n m - start_in strip n m))
