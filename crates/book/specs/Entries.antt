-- What the entries of a book and of a chapter have to keep: names unique in their kind, motifs that the book has.
use Rattle.std.specs.Prelude.{◌≡◌, ℕ, ◌<◌, Bool, true, not, ◌&&◌, ltb, List, [], ◌∷◌, map, length, nat_le, nat_lt, slice_index_or}
use Rattle.std.specs.List.{list_all}
use Rattle.entry.specs.Named.{letters_of, taken}
use Rattle.entry.specs.Rules.{motifs_of}
use Rattle.entry.specs.declared.mark.Mark.{Mark}
use Rattle.entry.specs.declared.motif.Motif.{Motif}
use Rattle.entry.specs.declared.rule.Rule.{Rule}

abbrev pub motif_names : List Motif → List (List ℕ)
motif_names ms = map (λ m. letters_of m.name) ms

abbrev pub rule_names : List Rule → List (List ℕ)
rule_names rs = map (λ r. letters_of r.name) rs

-- no name comes twice
abbrev pub distinct : List (List ℕ) → Bool
distinct [] = true
distinct (n ∷ ns) = not (taken n ns) && distinct ns

-- the same in numbers: no name stands at two of them
abbrev pub Unique : List (List ℕ) → Type 0
Unique names = (i j : ℕ) → i < length names → j < length names → slice_index_or names i [] ≡ slice_index_or names j [] → i ≡ j

-- `known count r`     the rule r names only motifs of a book that has `count`
abbrev pub known : ℕ → Rule → Bool
known count r = list_all (λ k. ltb k count) (motifs_of r)

abbrev pub all_known : ℕ → List Rule → Bool
all_known count rs = list_all (known count) rs

-- `held count m`      a chapter may hold the mark m: its motif is in the book, start and end are at most 20,000
abbrev pub held : ℕ → Mark → Bool
held count m = nat_lt m.motif count && (nat_le m.start 20000 && nat_le m.end 20000)

abbrev pub all_held : ℕ → List Mark → Bool
all_held count ms = list_all (held count) ms
