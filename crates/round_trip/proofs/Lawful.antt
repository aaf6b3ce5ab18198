-- What the entries of a chapter keep makes its page lawful.
use Rattle.std.proofs.Common.{◌≡◌, ℕ, suc, ◌+◌, ◌<◌, ◌≤◌, Bool, true, ◌&&◌, ltb, leb, List, [], ◌∷◌, map, length, get_or, Some, vec_len, sym, ap, ◌∙◌, subst, arith, length-take}
use mathlib.Core.List.{map-map}
use lib.ListN.{length-map}
use Rattle.std.proofs.lemmas.List.{map-id}
use Rattle.std.proofs.lemmas.Int.{ints}
use Rattle.std.proofs.lemmas.Bool.{and_parts, leb-true, ltb-true}
use Rattle.std.specs.List.{AllByRecursion}
use Rattle.entry.specs.Bodies.{items_of}
use Rattle.std.specs.List.{list_all}
use Rattle.entry.specs.Rules.{links_of, motifs_of, net_from, ranges_of}
use Rattle.entry.specs.declared.body.Body.{Body}
use Rattle.entry.specs.declared.mark.Mark.{Mark}
use Rattle.entry.specs.declared.motif.Motif.{Motif}
use Rattle.entry.specs.declared.range.Range.{Range}
use Rattle.entry.specs.declared.rule.Rule.{Rule}
use Rattle.book.specs.Adding.{marks_of, motifs_in, row_of, rules_in}
use Rattle.book.specs.Entries.{distinct, held, known}
use Rattle.book.specs.declared.values.chapter.Chapter.{Chapter}
use Rattle.body.specs.Entries.{entries_of, entry_of}
use Rattle.text.specs.Pages.{motif_entry, page_of, rule_entry}
use Rattle.writing.specs.Bodies.{Lawful, LawfulBody}
use Rattle.writing.specs.Lines.{Codes}
use Rattle.writing.specs.Motifs.{LawfulMotif}
use Rattle.writing.specs.Rules.{LawfulLink, LawfulRule}
use Rattle.round_trip.specs.Laws.{LawfulMark, LawfulPage}

-- codes, each of which fits
pub codes-fit : (cs : List ℕ) → ((k : ℕ) → get_or cs k 0 ≤ 65535) → Codes cs
codes-fit [] h = tt
codes-fit (c ∷ cs) h = (h 0, codes-fit cs (λ k. h (suc k)))

pub body-lawful : (b : Body) → AllByRecursion Lawful (map entry_of (items_of b)) → LawfulBody (entries_of (Some b))
body-lawful b a =
    let few : length (items_of b) ≤ 16 = omega (arith, length-take b.items.len b.items.kept, b.items.few) in
    let some : 1 ≤ length (items_of b) = b.some in
    let same : length (map entry_of (items_of b)) ≡ length (items_of b) = length-map (items_of b) entry_of in
    (omega arith, omega arith, a)

-- what follows from a test of every entry
by_test : {X Y : Type 0} (test : X → Bool) (P : Y → Type 0) (f : X → Y) → ((x : X) → test x ≡ true → P (f x)) → (xs : List X) → list_all test xs ≡ true → AllByRecursion P (map f xs)
by_test test P f so [] h = tt
by_test test P f so (x ∷ xs) h = let k = and_parts (test x) (list_all test xs) h in (so x k.0, by_test test P f so xs k.1)

module _ (count : ℕ) where
  link-lawful : (g : Range) (k : ℕ) → k < count → LawfulLink count (record { range = record { low = g.low; high = g.high }; motif = k })
  link-lawful g k h = record { lows = (g.least, omega (arith, ints, g.ordered, g.most)); highs = (omega (arith, ints, g.least, g.ordered), g.most); ordered = g.ordered; known = h }

  links-lawful : (ms : List ℕ) (gs : List Range) → list_all (λ k. ltb k count) ms ≡ true → AllByRecursion (LawfulLink count) (links_of ms gs)
  links-lawful [] gs h = tt
  links-lawful (m ∷ ms) [] h = tt
  links-lawful (m ∷ ms) (g ∷ gs) h =
      let k = and_parts (ltb m count) (list_all (λ k. ltb k count) ms) h in
      (link-lawful g m (ltb-true m count k.0), links-lawful ms gs k.1)

  links-few : (ms : List ℕ) (gs : List Range) → length (links_of ms gs) ≤ length ms
  links-few [] gs = omega arith
  links-few (m ∷ ms) [] = omega arith
  links-few (m ∷ ms) (g ∷ gs) = omega (arith, links-few ms gs)

  first-known : (ms : List ℕ) (gs : List Range) → 0 < length ms → list_all (λ k. ltb k count) ms ≡ true → (net_from ms gs).first < count
  first-known [] gs n h = absurd (omega arith)
  first-known (m ∷ ms) gs n h = ltb-true m count (and_parts (ltb m count) (list_all (λ k. ltb k count) ms) h).0

  rest-lawful : (ms : List ℕ) (gs : List Range) → list_all (λ k. ltb k count) ms ≡ true → AllByRecursion (LawfulLink count) (net_from ms gs).rest
  rest-lawful [] gs h = tt
  rest-lawful (m ∷ ms) gs h = links-lawful ms gs (and_parts (ltb m count) (list_all (λ k. ltb k count) ms) h).1

  rest-few : (ms : List ℕ) (gs : List Range) → length ms ≤ 12 → length (net_from ms gs).rest ≤ 11
  rest-few [] gs h = omega arith
  rest-few (m ∷ ms) gs h = omega (arith, links-few ms gs)

  rule-lawful : (r : Rule) → known count r ≡ true → LawfulRule count (rule_entry r)
  rule-lawful r h =
      let few : length (motifs_of r) ≤ 12 = omega (arith, length-take r.motifs.len r.motifs.kept, r.motifs.few) in
      let some : length (motifs_of r) ≡ length (ranges_of r) + 1 = r.between in
      record {
        named = r.name.named;
        first = first-known (motifs_of r) (ranges_of r) (omega arith) h;
        rest = rest-lawful (motifs_of r) (ranges_of r) h;
        few = rest-few (motifs_of r) (ranges_of r) (omega arith);
      }

  mark-lawful : (m : Mark) → held count m ≡ true → LawfulMark count m
  mark-lawful m h =
      let k = and_parts (ltb m.motif count) (leb m.start 20000 && leb m.end 20000) h in
      let e = and_parts (leb m.start 20000) (leb m.end 20000) k.1 in
      record { known = ltb-true m.motif count k.0; starts = leb-true m.start 20000 e.0; ends = leb-true m.end 20000 e.1 }

pub motif-lawful : (m : Motif) (b : Body) → m.weight ≤ 65535 → m.body ≡ Some b → LawfulBody (entries_of (Some b)) → LawfulMotif (motif_entry m)
motif-lawful m b w e h = record { named = m.name.named; weighs = w; body = subst (λ o. LawfulBody (entries_of o)) (sym e) h }

-- a list as long as its Vec
vec_long : {X Y : Type 0} (xs : List X) (f : X → Y) (n : ℕ) → n ≡ length xs → length (map f xs) ≡ n
vec_long xs f n e = length-map xs f ∙ sym e

pub chapter_lawful : (c : Chapter) → AllByRecursion LawfulMotif (map motif_entry (motifs_in c.book)) → Codes (row_of c) → LawfulPage (page_of c)
chapter_lawful c ms cs =
    let b = c.book in
    let count = vec_len b.motifs in
    let motifs : length (map motif_entry (motifs_in b)) ≡ count = vec_long (motifs_in b) motif_entry count b.motifs.ok.0 in
    let rules : length (map rule_entry (rules_in b)) ≡ vec_len b.rules = vec_long (rules_in b) rule_entry (vec_len b.rules) b.rules.ok.0 in
    let sixteen : count ≤ 16 = b.sixteen in
    let eight : vec_len b.rules ≤ 8 = b.eight in
    let short : vec_len c.row ≤ 20000 = c.short in
    let few : vec_len c.marks ≤ 4000 = c.few in
    record {
      motifs = ms;
      motifs_apart = ap distinct (map-map (λ m. m.name) motif_entry (motifs_in b)) ∙ b.motifnames;
      few_motifs = omega arith;
      rules = subst (λ n. AllByRecursion (LawfulRule n) (map rule_entry (rules_in b))) (sym motifs) (by_test (known count) (LawfulRule count) rule_entry (rule-lawful count) (rules_in b) b.known);
      rules_apart = ap distinct (map-map (λ r. r.name) rule_entry (rules_in b)) ∙ b.rulenames;
      few_rules = omega arith;
      row = cs;
      few_boxes = omega (arith, c.row.ok.0);
      marks = subst (λ n. AllByRecursion (LawfulMark n) (marks_of c)) (sym motifs) (subst (AllByRecursion (LawfulMark count)) (map-id (marks_of c)) (by_test (held count) (LawfulMark count) (λ m. m) (mark-lawful count) (marks_of c) c.held));
      few_marks = omega (arith, c.marks.ok.0);
    }
