-- Lines of rules as they are written, and what the reader makes of them.
use Rattle.std.specs.Prelude.{◌≡◌, ℕ, ◌+◌, ◌<◌, ◌≤◌, true, false, List, [], ◌∷◌, map, length, ◌≤ℤ◌, None, Ok, slice_index_or}
use Rattle.std.specs.List.{AllByRecursion}
use Rattle.entry.specs.Names.{is_name}
use Rattle.entry.specs.Rules.{Link, Net}
use Rattle.book.specs.Entries.{distinct}
use Rattle.entry.specs.Named.{taken}
use Rattle.word.specs.declared.limits.Limits.TheVariants.{Shift}
use Rattle.line.specs.Lines.{line_fault}
use Rattle.net.specs.Tokens.{name, net_tokens}
use Rattle.line.specs.Said.{line_says, rule}
use Rattle.text.specs.Nets.{link_of, missing, steps_in}
use Rattle.text.specs.Pages.{Page, RuleEntry, motif_names_in, rule_names_in}
use Rattle.text.specs.Taking.{with_line_taken, with_rule}
use Rattle.writing.specs.Lines.{line_of}
use Rattle.writing.specs.Breaks.{Whole}
use Rattle.writing.specs.Nets.{LawfulLeg, Leg, leg_tokens, net_text}
use Rattle.writing.specs.Numerals.{Keeps}

-- `leg_of names l`     a step with the name of its motif, where the motif k has the name at k
abbrev pub leg_of : List (List ℕ) → Link → Leg
leg_of names l = record { low = l.range.low; high = l.range.high; name = slice_index_or names l.motif [] }

abbrev pub net_field : List (List ℕ) → Net → List ℕ
net_field names t = net_text (slice_index_or names t.first []) (map (leg_of names) t.rest)

-- `r,NAME,NET`, where each range is written out, also 0 to 0
abbrev pub rule_line : List (List ℕ) → RuleEntry → List ℕ
rule_line names r = line_of 114 (r.name ∷ net_field names r.net ∷ [])

-- names of motifs: each is a name, and none comes twice
pub record LawfulNames (names : List (List ℕ)) : Type 0 where
  pub named : AllByRecursion (λ n. is_name n ≡ true) names
  pub apart : distinct names ≡ true

-- a range within its limits, low at most high, to one of `count` motifs
pub record LawfulLink (count : ℕ) (l : Link) : Type 0 where
  pub lows : Keeps Shift l.range.low
  pub highs : Keeps Shift l.range.high
  pub ordered : l.range.low ≤ℤ l.range.high
  pub known : l.motif < count

-- a name, and 1 to 12 of `count` motifs
pub record LawfulRule (count : ℕ) (r : RuleEntry) : Type 0 where
  pub named : is_name r.name ≡ true
  pub first : r.net.first < count
  pub rest : AllByRecursion (LawfulLink count) r.net.rest
  pub few : length r.net.rest ≤ 11

-- a line of a rule has no fault, and says its name and its net, whose names are looked up as its motifs
pub record RuleRead (names : List (List ℕ)) (r : RuleEntry) : Type 0 where
  pub sound : line_fault (rule_line names r) ≡ None
  pub says : line_says (rule_line names r) ≡ rule r.name (net_field names r.net)
  pub steps : steps_in names (net_field names r.net) ≡ Ok (link_of missing r.net.first ∷ r.net.rest)

-- it is taken into a page that has its motifs, no rule of its name yet, and room for it
abbrev pub RuleTaken : Page → RuleEntry → Type 0
RuleTaken p r =
    length (rule_line (motif_names_in p) r) ≤ 200 → taken r.name (rule_names_in p) ≡ false → length p.rules < 8 → with_line_taken p (rule_line (motif_names_in p) r) ≡ Ok (with_rule p r)

-- a net is read back name by name and range by range, and the line of a rule is whole, read back, and taken
pub record Rules : Type 0 where
  pub net_back : (n : List ℕ) (ss : List Leg) → is_name n ≡ true → AllByRecursion LawfulLeg ss → net_tokens (net_text n ss) ≡ name 0 n ∷ leg_tokens (0 + length n + 1) ss
  pub rule_whole : (names : List (List ℕ)) (r : RuleEntry) → LawfulNames names → LawfulRule (length names) r → Whole (rule_line names r)
  pub rule_read : (names : List (List ℕ)) (r : RuleEntry) → LawfulNames names → LawfulRule (length names) r → RuleRead names r
  pub rule_taken : (p : Page) (r : RuleEntry) → LawfulNames (motif_names_in p) → LawfulRule (length (motif_names_in p)) r → RuleTaken p r
