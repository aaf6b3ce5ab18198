-- What a chapter holds, however it is kept.
use Rattle.std.specs.Prelude.{ℕ, List, map, Option}
use Rattle.book.specs.Adding.{marks_of, motifs_in, row_of, rules_in}
use Rattle.entry.specs.Named.{letters_of}
use Rattle.entry.specs.Rules.{Net, net_of}
use Rattle.book.specs.declared.values.chapter.Chapter.{Chapter}
use Rattle.entry.specs.declared.mark.Mark.{Mark}
use Rattle.entry.specs.declared.motif.Motif.{Motif}
use Rattle.entry.specs.declared.rule.Rule.{Rule}
use Rattle.body.specs.Entries.{Entry, entries_of}

pub record MotifEntry : Type 0 where
  pub name : List ℕ
  pub weight : ℕ
  pub body : Option (List Entry)

pub record RuleEntry : Type 0 where
  pub name : List ℕ
  pub net : Net

-- motifs and rules in the order of their numbers, the row and the marks
pub record Page : Type 0 where
  pub motifs : List MotifEntry
  pub rules : List RuleEntry
  pub row : List ℕ
  pub marks : List Mark

abbrev pub motif_entry : Motif → MotifEntry
motif_entry m = record { name = letters_of m.name; weight = m.weight; body = entries_of m.body }

abbrev pub rule_entry : Rule → RuleEntry
rule_entry r = record { name = letters_of r.name; net = net_of r }

abbrev pub page_of : Chapter → Page
page_of c = record {
  motifs = map motif_entry (motifs_in c.book);
  rules = map rule_entry (rules_in c.book);
  row = row_of c;
  marks = marks_of c;
}

abbrev pub motif_names_in : Page → List (List ℕ)
motif_names_in p = map (λ m. m.name) p.motifs

abbrev pub rule_names_in : Page → List (List ℕ)
rule_names_in p = map (λ r. r.name) p.rules
