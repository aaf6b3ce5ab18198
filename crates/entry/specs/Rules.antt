-- What a rule means: its first motif and, for each further one, the range that leads to it.
use Rattle.std.specs.Prelude.{ℕ, ◌+◌, List, [], ◌∷◌, ℤ, ◌-ℤ◌, unsigned_abs}
use Rattle.few.specs.Few.{entries}
use Rattle.entry.specs.declared.range.Range.{Range}
use Rattle.entry.specs.declared.rule.Rule.{Rule}

-- `motifs_of r`      the motifs of a rule, by their numbers
abbrev pub motifs_of : Rule → List ℕ
motifs_of r = entries r.motifs

-- `ranges_of r`      its ranges, the k-th between motif k and motif k + 1
abbrev pub ranges_of : Rule → List Range
ranges_of r = entries r.ranges

-- how far a start may lie from the end before it
pub record Span : Type 0 where
  pub low : ℤ
  pub high : ℤ

abbrev pub span_of : Range → Span
span_of g = record { low = g.low; high = g.high }

-- `width g`         the number of places that a range allows
abbrev pub width : Span → ℕ
width g = unsigned_abs (g.high -ℤ g.low) + 1

-- a range and the motif beyond it
pub record Link : Type 0 where
  pub range : Span
  pub motif : ℕ

-- `first`           the first motif's number
-- `rest`            the others, each with the range before it
pub record Net : Type 0 where
  pub first : ℕ
  pub rest : List Link

abbrev pub links_of : List ℕ → List Range → List Link
links_of [] gs = []
links_of (m ∷ ms) [] = []
links_of (m ∷ ms) (g ∷ gs) = record { range = span_of g; motif = m } ∷ links_of ms gs

abbrev pub net_from : List ℕ → List Range → Net
net_from [] gs = record { first = 0; rest = [] }
net_from (m ∷ ms) gs = record { first = m; rest = links_of ms gs }

-- `net_of r`         what the rule r asks for
abbrev pub net_of : Rule → Net
net_of r = net_from (motifs_of r) (ranges_of r)
