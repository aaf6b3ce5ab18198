-- The names of a written net are looked up as the motifs of its rule, and its ranges are kept.
use Rattle.std.proofs.Common.{◌≡◌, ℕ, ◌+◌, ◌≤◌, true, false, List, [], ◌∷◌, map, length, get_or, ℤ, pos, negsuc, ◌≤ℤ◌, None, Ok, refl, ap, ◌∙◌, arith}
use lib.Signed.{lt_z}
use Rattle.std.proofs.ByRecursion.{All-get_or}
use Rattle.std.proofs.lemmas.Int.{ints}
use Rattle.std.proofs.lemmas.Bool.{lt-leb, or_from}
use Rattle.std.specs.List.{AllByRecursion}
use Rattle.refusal.specs.Checks.{refuse}
use Rattle.refusal.specs.declared.Refusal.TheVariants.{BackwardRange, BadNumber}
use Rattle.entry.specs.Faults.{outside, range_fault}
use Rattle.entry.specs.Names.{is_name}
use Rattle.entry.specs.Rules.{Link}
use Rattle.word.specs.declared.limits.Limits.TheVariants.{Shift}
use Rattle.net.specs.Tokens.{backward, name, names_over, net_tokens}
use Rattle.net.specs.declared.Bounds.{Bounds}
use Rattle.entry.specs.Named.{number_in}
use Rattle.text.specs.Nets.{ahead, link_of, missing, step, steps_from, steps_in, unless}
use Rattle.text.specs.Pages.{RuleEntry}
use Rattle.writing.specs.Nets.{LawfulLeg, Leg, high_part, leg_tokens, low_part}
use Rattle.writing.specs.Numerals.{Keeps}
use Rattle.writing.specs.Rules.{LawfulLink, LawfulNames, LawfulRule, leg_of, net_field}
use Rattle.writing.proofs.NetParts.{net_back}
use Rattle.writing.proofs.Numbers.{number_of}

not_less : (a b : ℤ) → a ≤ℤ b → lt_z b a ≡ false
not_less a b h = grind (arith, ints)

inside : (z : ℤ) → Keeps Shift z → outside z ≡ false
inside z k = or_from (lt_z z (negsuc 1999)) (lt_z (pos 2000) z) (not_less (negsuc 1999) z k.0) (not_less z (pos 2000) k.1)

range-kept : (low high : ℤ) → Keeps Shift low → Keeps Shift high → low ≤ℤ high → range_fault low high ≡ None
range-kept low high l h o i =
    refuse (inside low l i) BadNumber (refuse (inside high h i) BadNumber (refuse (not_less low high o i) BackwardRange None))

-- where the name of a step stands, and the next step
abbrev name_at : ℕ → Leg → ℕ
name_at at s = at + length (low_part s) + 1 + length (high_part s) + 1

abbrev next_at : ℕ → Leg → ℕ
next_at at s = name_at at s + length s.name + 1

module _ (names : List (List ℕ)) (n : LawfulNames names) where
  pub leg_lawful : (l : Link) → LawfulLink (length names) l → LawfulLeg (leg_of names l)
  leg_lawful l h = record { lows = h.lows; highs = h.highs; named = All-get_or (λ w. is_name w ≡ true) names l.motif [] h.known n.named }

  pub legs_lawful : (ls : List Link) → AllByRecursion (LawfulLink (length names)) ls → AllByRecursion LawfulLeg (map (leg_of names) ls)
  legs_lawful [] a = tt
  legs_lawful (l ∷ ls) a = (leg_lawful l a.0, legs_lawful ls a.1)

  legs_forward : (at : ℕ) (ls : List Link) → AllByRecursion (LawfulLink (length names)) ls → backward (leg_tokens at (map (leg_of names) ls)) ≡ None
  legs_forward at [] a = refl
  legs_forward at (l ∷ ls) a =
      let next = next_at at (leg_of names l) in
      ap (λ t. refuse t at (backward (leg_tokens next (map (leg_of names) ls)))) (not_less l.range.low l.range.high a.0.ordered) ∙ legs_forward next ls a.1

  legs_few : (at k : ℕ) (ls : List Link) → k + length ls ≤ 12 → names_over k (leg_tokens at (map (leg_of names) ls)) ≡ None
  legs_few at k [] h = refl
  legs_few at k (l ∷ ls) h =
      let s = leg_of names l in
      ap (λ t. refuse t (name_at at s) (names_over (k + 1) (leg_tokens (next_at at s) (map (leg_of names) ls)))) (lt-leb 12 k (omega arith)) ∙ legs_few (next_at at s) (k + 1) ls (omega arith)

  legs_steps : (at : ℕ) (ls : List Link) → AllByRecursion (LawfulLink (length names)) ls → steps_from names missing (leg_tokens at (map (leg_of names) ls)) ≡ Ok ls
  legs_steps at [] a = refl
  legs_steps at (l ∷ ls) a =
      let s = leg_of names l in
      let h = a.0 in
      let g : Bounds = record { low = l.range.low; high = l.range.high } in
      let rest = steps_from names missing (leg_tokens (next_at at s) (map (leg_of names) ls)) in
      ap (λ o. step (unless o g) (number_in s.name names) (name_at at s) rest) (range-kept l.range.low l.range.high h.lows h.highs h.ordered)
      ∙ ap (λ o. step g o (name_at at s) rest) (number_of names n.apart l.motif h.known)
      ∙ ap (ahead (link_of g l.motif ∷ [])) (legs_steps (next_at at s) ls a.1)

  module _ (r : RuleEntry) (h : LawfulRule (length names) r) where
    pub first-named : is_name (get_or names r.net.first []) ≡ true
    first-named = All-get_or (λ w. is_name w ≡ true) names r.net.first [] h.first n.named

    told : net_tokens (net_field names r.net) ≡ name 0 (get_or names r.net.first []) ∷ leg_tokens (0 + length (get_or names r.net.first []) + 1) (map (leg_of names) r.net.rest)
    told = net_back (get_or names r.net.first []) (map (leg_of names) r.net.rest) first-named (legs_lawful r.net.rest h.rest)

    pub forward : backward (net_tokens (net_field names r.net)) ≡ None
    forward = ap backward told ∙ legs_forward (0 + length (get_or names r.net.first []) + 1) r.net.rest h.rest

    pub few_names : names_over 0 (net_tokens (net_field names r.net)) ≡ None
    few_names = ap (names_over 0) told ∙ legs_few (0 + length (get_or names r.net.first []) + 1) (0 + 1) r.net.rest (omega (arith, h.few))

    pub steps_back : steps_in names (net_field names r.net) ≡ Ok (link_of missing r.net.first ∷ r.net.rest)
    steps_back =
        let w = get_or names r.net.first [] in
        let at = 0 + length w + 1 in
        ap (steps_from names missing) told
        ∙ ap (λ o. step missing o 0 (steps_from names missing (leg_tokens at (map (leg_of names) r.net.rest)))) (number_of names n.apart r.net.first h.first)
        ∙ ap (ahead (link_of missing r.net.first ∷ [])) (legs_steps at r.net.rest h.rest)
