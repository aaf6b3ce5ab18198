-- The motifs of a rule of a book are in the book.
use Rattle.std.proofs.Common.{◌≡◌, ℕ, zero, suc, ◌-◌, ◌<◌, true, ltb, List, [], ◌∷◌, map, length, get_or, Some, vec_len, sym, refl, ap, ◌∙◌, subst, arith}
use Rattle.std.specs.List.{AllPass}
use Rattle.std.proofs.lemmas.List.{get_or-map}
use Rattle.std.proofs.lemmas.Bool.Decides.{nat_tests}
use Rattle.std.proofs.lemmas.List.Sums.{AllPass-from_list_all}
use Rattle.entry.specs.Rules.{Net, motifs_of, net_of}
use Rattle.entry.specs.declared.motif.Motif.{Motif}
use Rattle.entry.specs.declared.rule.Rule.{Rule}
use Rattle.book.specs.Adding.{motifs_in, rules_in}
use Rattle.book.specs.Entries.{known}
use Rattle.book.specs.declared.values.book.Book.{Book}
use Rattle.rules.specs.Nets.{nets_in}
use Rattle.rules.proofs.Numbers.{length_of, motif_of}
use Rattle.walk.specs.Asked.{rule_numbered}
use Rattle.plan.specs.Weighed.{Known, weight_in}

module _ (count : ℕ) where
  known-motifs : (r : Rule) → known count r ≡ true → Known count (net_of r)
  known-motifs r all i some within =
      let there = AllPass-from_list_all (λ k. ltb k count) (motifs_of r) all (i - 1) 0 (omega (arith, length_of r (motifs_of r) refl)) in
      let below : get_or (motifs_of r) (i - 1) 0 < count = grind (arith, nat_tests) in
      subst (λ m. m < count) (motif_of r (motifs_of r) refl i some within) below

  known_among : (rs : List Rule) (k : ℕ) (net : Net) → AllPass (known count) rs → Some net ≡ rule_numbered (map net_of rs) k → Known count net
  known_among [] k net all e = let z : ◌≡◌ {A = ℕ} 0 1 = cc in absurd (omega arith)
  known_among (r ∷ rs) zero net all e =
      let same : net_of r ≡ net = cc in
      subst (Known count) same (known-motifs r (all 0 r (omega arith)))
  known_among (r ∷ rs) (suc k) net all e = known_among rs k net (λ i d lt. all (suc i) d (omega arith)) e

pub known_in : (b : Book) (k : ℕ) (net : Net) → Some net ≡ rule_numbered (nets_in b) k → Known (length (motifs_in b)) net
known_in b k net e =
    let long : vec_len b.motifs ≡ length (motifs_in b) = omega (arith, b.motifs.ok.0) in
    subst (λ n. Known n net) long (known_among (vec_len b.motifs) (rules_in b) k net (AllPass-from_list_all (known (vec_len b.motifs)) (rules_in b) b.known) e)

-- the weight of a motif, by its number in the list that a book lends
pub weight_is : (b : Book) (ms : List Motif) (k : ℕ) (m : Motif) → ms ≡ motifs_in b → k < length ms → m ≡ get_or ms k m → m.weight ≡ weight_in b k
weight_is b ms k m is lt at =
    let long : k < length (motifs_in b) = omega (arith, ap length is) in
    ap (λ (m : Motif). m.weight) (at ∙ ap (λ (xs : List Motif). get_or xs k m) is) ∙ sym (get_or-map (λ (m : Motif). m.weight) (motifs_in b) k m 0 long)
