-- What a NET says: its names and ranges in their order, each with its place. The parts at the spaces are taken one by one:
-- two that are `<l` and `r>` make a range, and every other part is a name, whatever its bytes.
use Rattle.std.specs.Prelude.{ℕ, ◌+◌, ◌-◌, cond, List, [], ◌∷◌, length, take, ℤ, Some, None, Option, ◌==◌, int_lt, nat_le, slice_index}
use Rattle.refusal.specs.Checks.{refuse}
use Rattle.parts.specs.Parts.{Placed, parts, placed}
use Rattle.word.specs.Numbers.{number_of}
use Rattle.net.specs.declared.Bounds.{Bounds}
use Rattle.word.specs.declared.limits.Limits.TheVariants.{Shift}

pub data Tok : Type 0 where
  name : ℕ → List ℕ → Tok
  range : ℕ → Bounds → Tok

abbrev pub place_of : Tok → ℕ
place_of (name at w) = at
place_of (range at g) = at

-- `low_of p`        the number behind `<`
abbrev pub low_of : List ℕ → Option ℤ
low_of [] = None
low_of (b ∷ w) = cond (b == 60) (number_of Shift w) None

-- `high_of p`       the number before `>`
abbrev pub high_of : List ℕ → Option ℤ
high_of p = cond (slice_index p (length p - 1) == 62) (number_of Shift (take (length p - 1) p)) None

abbrev pub both : Option ℤ → Option ℤ → Option Bounds
both None h = None
both (Some l) None = None
both (Some l) (Some h) = Some (record { low = l; high = h })

-- `bounds_of p q`   the numbers of the range that two parts make
abbrev pub bounds_of : List ℕ → List ℕ → Option Bounds
bounds_of p q = both (low_of p) (high_of q)

abbrev pub range_or : {A : Type 0} → Option Bounds → (Bounds → A) → A → A
range_or None f x = x
range_or (Some g) f x = f g

-- `tokens_of ps`   the tokens of the parts ps
abbrev pub tokens_of : List Placed → List Tok
tokens_of [] = []
tokens_of (p ∷ []) = name p.at p.bytes ∷ []
tokens_of (p ∷ q ∷ ps) = range_or (bounds_of p.bytes q.bytes) (λ g. range p.at g ∷ tokens_of ps) (name p.at p.bytes ∷ tokens_of (q ∷ ps))

-- `tokens at ps`   the same, where the first of the parts is at the place `at`
abbrev pub tokens : ℕ → List (List ℕ) → List Tok
tokens at ps = tokens_of (placed at ps)

abbrev pub net_tokens : List ℕ → List Tok
net_tokens w = tokens 0 (parts 32 w)

-- `backward ts`    the place of the first range whose low is above its high
abbrev pub backward : List Tok → Option ℕ
backward [] = None
backward (name at w ∷ ts) = backward ts
backward (range at g ∷ ts) = refuse (int_lt g.high g.low) at (backward ts)

-- `names_over n ts`   the place of the first name too many, n names coming before; a net has at most 12
abbrev pub names_over : ℕ → List Tok → Option ℕ
names_over n [] = None
names_over n (name at w ∷ ts) = refuse (nat_le 12 n) at (names_over (n + 1) ts)
names_over n (range at g ∷ ts) = names_over n ts
