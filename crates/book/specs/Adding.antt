-- Why an entry is not added to a book or a chapter: the checks of each call, in their order.
use Rattle.std.specs.Prelude.{ℕ, ◌+◌, not, ◌||◌, List, length, None, vec_items, Option, ◌==◌, nat_le, nat_lt}
use Rattle.refusal.specs.Checks.{refuse}
use Rattle.refusal.specs.declared.Refusal.{Refusal}
use Rattle.refusal.specs.declared.Refusal.TheVariants.{BadNumber, BadShape, NameTaken, NoRoom, UnknownMotif}
use Rattle.entry.specs.Named.{letters_of}
use Rattle.book.specs.Entries.{motif_names, rule_names, known}
use Rattle.entry.specs.Named.{taken}
use Rattle.book.specs.declared.values.book.Book.{Book}
use Rattle.book.specs.declared.values.chapter.Chapter.{Chapter}
use Rattle.entry.specs.declared.mark.Mark.{Mark}
use Rattle.entry.specs.declared.motif.Motif.{Motif}
use Rattle.entry.specs.declared.rule.Rule.{Rule}

-- `motifs_in b`        the motifs of a book, in the order of their numbers
abbrev pub motifs_in : Book → List Motif
motifs_in b = vec_items b.motifs

-- `rules_in b`         its rules, in the order of their numbers
abbrev pub rules_in : Book → List Rule
rules_in b = vec_items b.rules

abbrev pub motif_fault : Book → Motif → Option Refusal
motif_fault b m = refuse (taken (letters_of m.name) (motif_names (motifs_in b))) NameTaken (refuse (nat_le 16 (length (motifs_in b))) NoRoom None)

abbrev pub rule_add_fault : Book → Rule → Option Refusal
rule_add_fault b r = refuse (taken (letters_of r.name) (rule_names (rules_in b))) NameTaken (refuse (not (known (length (motifs_in b)) r)) UnknownMotif (refuse (nat_le 8 (length (rules_in b))) NoRoom None))

abbrev pub row_of : Chapter → List ℕ
row_of c = vec_items c.row

abbrev pub marks_of : Chapter → List Mark
marks_of c = vec_items c.marks

abbrev pub boxes_fault : Chapter → List ℕ → Option Refusal
boxes_fault c codes = refuse (length codes == 0) BadShape (refuse (nat_lt 20000 (length (row_of c) + length codes)) NoRoom None)

abbrev pub mark_fault : Chapter → Mark → Option Refusal
mark_fault c m = refuse (nat_lt 20000 m.start || nat_lt 20000 m.end) BadNumber (refuse (nat_le (length (motifs_in c.book)) m.motif) UnknownMotif (refuse (nat_le 4000 (length (marks_of c))) NoRoom None))
