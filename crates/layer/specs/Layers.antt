-- What the layers mean: two sources as one, and a window on a part of one.
use Rattle.std.specs.Prelude.{ℕ, ◌+◌, ◌-◌, min, max, ◌&&◌, ◌||◌, Some, None, Option, nat_le}
use Rattle.source.specs.Meaning.{Meaning, Price}

-- `both M N`            M's length and stretches, and those of N that end within M's length
abbrev pub both : Meaning → Meaning → Meaning
both M N = record { boxes = M.boxes; has = λ k a b. M.has k a b || (N.has k a b && nat_le b M.boxes) }

-- `both_price p q`       each price the smaller of the sum and 1,000
abbrev pub both_price : Price → Price → Price
both_price p q = record { look = min (p.look + q.look) 1000; opening = min (p.opening + q.opening) 1000 }

-- `part M u v`          M's stretches that lie between the places u and v, counted from u
abbrev pub part : Meaning → ℕ → ℕ → Meaning
part M u v = record { boxes = v - u; has = λ k a b. M.has k (a + u) (b + u) && nat_le (b + u) v }

-- `cut_from n u`         the place u, cut to at most n
abbrev pub cut_from : ℕ → ℕ → ℕ
cut_from n u = min u n

-- `cut_to n u v`         then the place v, cut to between that one and n
abbrev pub cut_to : ℕ → ℕ → ℕ → ℕ
cut_to n u v = max (cut_from n u) (min v n)

-- `window M u v`        the part of M between the places u and v, once they are cut to its length
abbrev pub window : Meaning → ℕ → ℕ → Meaning
window M u v = part M (cut_from M.boxes u) (cut_to M.boxes u v)

-- `nearer x y`          the smaller of two answers, where there is one
abbrev pub nearer : Option ℕ → Option ℕ → Option ℕ
nearer None y = y
nearer (Some a) None = Some a
nearer (Some a) (Some b) = Some (min a b)
