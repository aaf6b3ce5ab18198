-- A net whose names are looked up: the motif of each name, with the range that leads to it.
use Rattle.std.specs.Prelude.{ℕ, List, [], ◌∷◌, ◌++◌, pos, Some, None, Ok, Err, Option, Result}
use Rattle.refusal.specs.declared.Refusal.{Refusal}
use Rattle.entry.specs.Faults.{range_fault}
use Rattle.entry.specs.Rules.{Link, Net}
use Rattle.net.specs.Tokens.{Tok, name, net_tokens, range}
use Rattle.net.specs.declared.Bounds.{Bounds}
use Rattle.entry.specs.Named.{number_in}

-- a missing range is 0 to 0
abbrev pub missing : Bounds
missing = record { low = pos 0; high = pos 0 }

-- a range that is not lawful counts as missing, but its line is refused before
abbrev pub unless : Option Refusal → Bounds → Bounds
unless None g = g
unless (Some e) g = missing

abbrev pub lawful : Bounds → Bounds
lawful g = unless (range_fault g.low g.high) g

abbrev pub link_of : Bounds → ℕ → Link
link_of g k = record { range = record { low = g.low; high = g.high }; motif = k }

-- the steps ahead of others
abbrev pub ahead : List Link → Result (List Link) ℕ → Result (List Link) ℕ
ahead ls (Ok ms) = Ok (ls ++ ms)
ahead ls (Err p) = Err p

-- `step g k o`     a name that is looked up as k, behind the range g, at the place p
abbrev pub step : Bounds → Option ℕ → ℕ → Result (List Link) ℕ → Result (List Link) ℕ
step g None p more = Err p
step g (Some k) p more = ahead (link_of g k ∷ []) more

-- `steps_from names g ts`   the steps of the tokens, where g is the range before the first; or the place of an unknown name
abbrev pub steps_from : List (List ℕ) → Bounds → List Tok → Result (List Link) ℕ
steps_from names g [] = Ok []
steps_from names g (range at h ∷ ts) = steps_from names (lawful h) ts
steps_from names g (name at w ∷ ts) = step g (number_in w names) at (steps_from names missing ts)

abbrev pub steps_in : List (List ℕ) → List ℕ → Result (List Link) ℕ
steps_in names w = steps_from names missing (net_tokens w)

-- the range before the first motif counts for nothing
abbrev pub net_in : List Link → Net
net_in [] = record { first = 0; rest = [] }
net_in (l ∷ ls) = record { first = l.motif; rest = ls }
