-- Keys: a mark as the end question or the start question reads it, the order of keys, what keys say, and the first item from a key on.
use Rattle.std.specs.Prelude.{◌≡◌, ℕ, Bool, true, false, ◌&&◌, List, Some, None, Option, ◌==◌}
use Rattle.std.specs.List.{All, Contains, list_any}
use Rattle.std.specs.declared.cmp.Ordering.{Ordering}
use Rattle.std.specs.Ordering.{is_lt, ordering_then, nat_cmp}
use Rattle.entry.specs.declared.mark.Mark.{Mark}
use Rattle.mark.specs.declared.key.Key.{Key}

-- `start_key m`     m by start, as the end question reads it
-- `end_key m`       m by end, as the start question reads it
abbrev pub start_key : Mark → Key
start_key m = record { motif = m.motif; known = m.start; wanted = m.end }

abbrev pub end_key : Mark → Key
end_key m = record { motif = m.motif; known = m.end; wanted = m.start }

-- the order of keys: by motif, then known, then wanted
abbrev pub rank_key : Key → Key → Ordering
rank_key x y = ordering_then (nat_cmp x.motif y.motif) (ordering_then (nat_cmp x.known y.known) (nat_cmp x.wanted y.wanted))

abbrev pub before : Key → Key → Bool
before x y = is_lt (rank_key x y)

-- `any_key xs k n w`  some key of xs is (k, n, w)
abbrev pub is_key : Key → ℕ → ℕ → ℕ → Bool
is_key x k n w = x.motif == k && (x.known == n && x.wanted == w)

abbrev pub any_key : List Key → ℕ → ℕ → ℕ → Bool
any_key xs k n w = list_any (λ x. is_key x k n w) xs

-- `First key xs t r`  r is the first of xs, in the order of their keys, that does not come before t; None where all do
abbrev pub First : {T : Type 0} → (T → Key) → List T → Key → Option T → Type 0
First key xs t None = All (λ y. before (key y) t ≡ true) xs
First key xs t (Some x) = Contains xs x × (before (key x) t ≡ false) × All (λ y. before (key y) t ≡ false → before (key y) (key x) ≡ false) xs
