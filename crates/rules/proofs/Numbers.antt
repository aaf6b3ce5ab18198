-- The motifs and ranges of a rule by their numbers, from 1.
use Rattle.std.proofs.Common.{◌≡◌, ℕ, zero, suc, ◌+◌, ◌-◌, ◌<◌, ◌≤◌, List, [], ◌∷◌, length, get_or, sym, refl, ap, ◌∙◌, ap₂, arith}
use Rattle.entry.specs.declared.range.Range.{Range}
use Rattle.entry.specs.Rules.{span_of, links_of, net_from, net_of, motifs_of, ranges_of}
use Rattle.entry.specs.declared.rule.Rule.{Rule}
use Rattle.std.proofs.lemmas.List.{length-take}
use Rattle.rules.specs.Nets.{motifs}
use Rattle.walk.specs.Numbered.{no_link, motif_after, motif, range}

links-long : (ms : List ℕ) (gs : List Range) → length ms ≡ length gs → length (links_of ms gs) ≡ length gs
links-long [] [] e = refl
links-long [] (g ∷ gs) e = absurd (omega arith)
links-long (m ∷ ms) [] e = absurd (omega arith)
links-long (m ∷ ms) (g ∷ gs) e = ap suc (links-long ms gs (omega arith))

net-motifs : (ms : List ℕ) (gs : List Range) → length ms ≡ length gs + 1 → length (net_from ms gs).rest + 1 ≡ length ms
net-motifs [] gs e = absurd (omega arith)
net-motifs (m ∷ ms) gs e = omega (arith, links-long ms gs (omega arith))

link-motif : (ms : List ℕ) (gs : List Range) (k : ℕ) → length ms ≡ length gs → k < length ms → (get_or (links_of ms gs) k no_link).motif ≡ get_or ms k 0
link-motif [] gs k e lt = absurd (omega arith)
link-motif (m ∷ ms) [] k e lt = absurd (omega arith)
link-motif (m ∷ ms) (g ∷ gs) zero e lt = refl
link-motif (m ∷ ms) (g ∷ gs) (suc k) e lt = link-motif ms gs k (omega arith) (omega arith)

link-range : (ms : List ℕ) (gs : List Range) (k : ℕ) (d : Range) → length ms ≡ length gs → k < length ms → (get_or (links_of ms gs) k no_link).range ≡ span_of (get_or gs k d)
link-range [] gs k d e lt = absurd (omega arith)
link-range (m ∷ ms) [] k d e lt = absurd (omega arith)
link-range (m ∷ ms) (g ∷ gs) zero d e lt = refl
link-range (m ∷ ms) (g ∷ gs) (suc k) d e lt = link-range ms gs k d (omega arith) (omega arith)

net-motif : (ms : List ℕ) (gs : List Range) (k : ℕ) → length ms ≡ length gs + 1 → k < length ms → motif (net_from ms gs) (k + 1) ≡ get_or ms k 0
net-motif [] gs k e lt = absurd (omega arith)
net-motif (m ∷ ms) gs zero e lt = refl
net-motif (m ∷ ms) gs (suc k) e lt =
    ap (motif_after (net_from (m ∷ ms) gs)) (let q : suc k + 1 - 1 ≡ suc k = omega arith in q) ∙ link-motif ms gs k (omega arith) (omega arith)

net-range : (ms : List ℕ) (gs : List Range) (k : ℕ) (d : Range) → length ms ≡ length gs + 1 → k < length gs → range (net_from ms gs) (k + 1) ≡ span_of (get_or gs k d)
net-range [] gs k d e lt = absurd (omega arith)
net-range (m ∷ ms) gs k d e lt =
    ap (λ x. (get_or (links_of ms gs) x no_link).range) (let q : k + 1 - 1 ≡ k = omega arith in q) ∙ link-range ms gs k d (omega arith) (omega arith)

module _ (r : Rule) where
  pub rule-motifs : motifs (net_of r) ≡ length (motifs_of r)
  rule-motifs = net-motifs (motifs_of r) (ranges_of r) r.between

  pub rule-motif : (i : ℕ) → 1 ≤ i → i ≤ length (motifs_of r) → get_or (motifs_of r) (i - 1) 0 ≡ motif (net_of r) i
  rule-motif i some within =
      sym (net-motif (motifs_of r) (ranges_of r) (i - 1) r.between (omega arith)) ∙ ap (motif (net_of r)) (let e : i - 1 + 1 ≡ i = omega arith in e)

  pub rule-range : (k : ℕ) (d : Range) → 1 ≤ k → k + 1 ≤ length (motifs_of r) → span_of (get_or (ranges_of r) (k - 1) d) ≡ range (net_of r) k
  rule-range k d some within =
      sym (net-range (motifs_of r) (ranges_of r) (k - 1) d r.between (omega (arith, r.between))) ∙ ap (range (net_of r)) (let e : k - 1 + 1 ≡ k = omega arith in e)

  -- the same of the lists that a rule lends
  pub few_motifs : motifs (net_of r) ≤ 12
  few_motifs = omega (arith, rule-motifs, length-take r.motifs.len r.motifs.kept, r.motifs.few)

  pub length_of : (ms : List ℕ) → ms ≡ motifs_of r → length ms ≡ motifs (net_of r)
  length_of ms is = omega (arith, ap length is, rule-motifs)

  pub gaps_of : (gs : List Range) → gs ≡ ranges_of r → length gs + 1 ≡ motifs (net_of r)
  gaps_of gs is = omega (arith, ap length is, r.between, rule-motifs)

  pub motif_of : (ms : List ℕ) → ms ≡ motifs_of r → (i : ℕ) → 1 ≤ i → i ≤ motifs (net_of r) → get_or ms (i - 1) 0 ≡ motif (net_of r) i
  motif_of ms is i some within = ap (λ xs. get_or xs (i - 1) 0) is ∙ rule-motif i some (omega (arith, rule-motifs))

  pub range_of : (gs : List Range) → gs ≡ ranges_of r → (k x : ℕ) (g : Range) → g ≡ get_or gs x g → x + 1 ≡ k → k + 1 ≤ motifs (net_of r) → span_of g ≡ range (net_of r) k
  range_of gs is k x g at next within =
      let place : x ≡ k - 1 = omega arith in
      ap span_of (at ∙ ap₂ (λ ys y. get_or ys y g) is place) ∙ rule-range k g (omega arith) (omega (arith, rule-motifs))
