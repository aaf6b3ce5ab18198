-- Lines of rules are read back.
use Rattle.std.proofs.Common.{◌≡◌, ℕ, ◌+◌, false, not, eqb, List, [], ◌∷◌, ◌++◌, map, length, get_or, None, Ok, refl, ap, ◌∙◌}
use Rattle.std.proofs.lemmas.Bool.{le-ltb, lt-leb}
use Rattle.std.specs.List.{AllByRecursion}
use Rattle.refusal.specs.Checks.{refuse}
use Rattle.parts.proofs.Cuts.{Lacks}
use Rattle.shape.specs.Kinds.{is_numeral}
use Rattle.entry.specs.Names.{is_letter}
use Rattle.word.specs.Faults.{raised}
use Rattle.word.specs.declared.limits.Limits.TheVariants.{Shift}
use Rattle.word.specs.declared.faults.WordFault.TheVariants.{BadName, BadNumber}
use Rattle.line.specs.Lines.{◌else◌, in_word, line_fault, rule_fault}
use Rattle.line.specs.Said.{line_says}
use Rattle.line.specs.declared.kinds.Kind.TheVariants.{Rule}
use Rattle.line.specs.declared.faults.LineFault.TheVariants.{BackwardRange, BadShape, TooMany}
use Rattle.text.specs.Nets.{steps_in}
use Rattle.text.specs.Pages.{Page, RuleEntry, motif_names_in}
use Rattle.text.specs.Taking.{take_judged, take_steps, unless_by, with_rule}
use Rattle.text.specs.declared.faults.TextFault.TheVariants.{LineTooLong, NameTaken, NoRoom}
use Rattle.writing.specs.Nets.{LawfulLeg, Leg, leg_text}
use Rattle.writing.specs.Numerals.{word_of}
use Rattle.writing.specs.Rules.{LawfulNames, LawfulRule, RuleRead, RuleTaken, leg_of, net_field, rule_line}
use Rattle.writing.proofs.Fields.{line-fault, line-says}
use Rattle.writing.proofs.Laws.{lacks}
use Rattle.writing.proofs.Lines.{name-lacks}
use Rattle.writing.proofs.NetLetters.{net_named}
use Rattle.writing.proofs.NetShapes.{net_shaped}
use Rattle.writing.proofs.Nets.{net_sound}
use Rattle.writing.proofs.Parting.{append-lacks, joined-lacks}
use Rattle.writing.proofs.Steps.{few_names, first-named, forward, legs_lawful, steps_back}

-- a byte that stands in no net
pub record Foreign (b : ℕ) : Type 0 where
  pub numeral : is_numeral b ≡ false
  pub letter : is_letter b ≡ false
  pub space : eqb 32 b ≡ false
  pub less : eqb 60 b ≡ false
  pub more : eqb 62 b ≡ false

module _ (b : ℕ) (o : Foreign b) where
  leg_lacks : (s : Leg) → LawfulLeg s → Lacks b (leg_text s)
  leg_lacks s l =
      let lo = word_of s.low in
      let hi = word_of s.high in
      let end : Lacks b (62 ∷ 32 ∷ s.name) = (o.more, (o.space, name-lacks b s.name o.letter l.named)) in
      let high : Lacks b (hi ++ (62 ∷ 32 ∷ s.name)) = append-lacks b hi (62 ∷ 32 ∷ s.name) (lacks b o.numeral Shift s.high l.highs) end in
      (o.less, append-lacks b lo (32 ∷ (hi ++ (62 ∷ 32 ∷ s.name))) (lacks b o.numeral Shift s.low l.lows) (o.space, high))

  legs_lack : (ss : List Leg) → AllByRecursion LawfulLeg ss → AllByRecursion (Lacks b) (map leg_text ss)
  legs_lack [] a = tt
  legs_lack (s ∷ ss) a = (leg_lacks s a.0, legs_lack ss a.1)

  pub net-lacks : (names : List (List ℕ)) (r : RuleEntry) → LawfulNames names → LawfulRule (length names) r → Lacks b (net_field names r.net)
  net-lacks names r n h =
      joined-lacks b 32 o.space (get_or names r.net.first []) (map leg_text (map (leg_of names) r.net.rest)) (name-lacks b (get_or names r.net.first []) o.letter (first-named names n r h)) (legs_lack (map (leg_of names) r.net.rest) (legs_lawful names n r.net.rest h.rest))

module _ (names : List (List ℕ)) (r : RuleEntry) (n : LawfulNames names) (h : LawfulRule (length names) r) where
  rule-none : (i j : ℕ) → rule_fault (record { at = i; bytes = r.name }) (record { at = j; bytes = net_field names r.net }) ≡ None
  rule-none i j d =
      let w = get_or names r.net.first [] in
      let ss = map (leg_of names) r.net.rest in
      let f = first-named names n r h in
      let a = legs_lawful names n r.net.rest h.rest in
      in_word (refuse (not (h.named d)) (BadName i) None) else in_word (raised BadName j (net_named w ss f a d)) else in_word (raised BadNumber j (net_sound w ss f a d)) else raised BadShape j (net_shaped w ss f a d) else raised BackwardRange j (forward names n r h d) else raised TooMany j (few_names names n r h d)

  comma_name : Lacks 44 r.name
  comma_name = name-lacks 44 r.name refl h.named

  comma_net : AllByRecursion (Lacks 44) (net_field names r.net ∷ [])
  comma_net = (net-lacks 44 (record { numeral = refl; letter = refl; space = refl; less = refl; more = refl }) names r n h, tt)

  pub rule_read : RuleRead names r
  rule_read = record {
    sound = line-fault 114 r.name (net_field names r.net ∷ []) comma_name comma_net Rule refl refl refl ∙ rule-none 2 (2 + length r.name + 1);
    says = line-says 114 r.name (net_field names r.net ∷ []) comma_name comma_net Rule refl;
    steps = steps_back names n r h;
  }

pub rule_taken : (p : Page) (r : RuleEntry) → LawfulNames (motif_names_in p) → LawfulRule (length (motif_names_in p)) r → RuleTaken p r
rule_taken p r n h short free room =
    let names = motif_names_in p in
    let t = rule_line names r in
    let read = rule_read names r n h in
    ap (λ x. unless_by x LineTooLong (take_judged p (line_fault t) (line_says t))) (le-ltb 200 (length t) short)
    ∙ (λ i. take_judged p (read.sound i) (read.says i))
    ∙ ap (λ x. unless_by x NameTaken (take_steps p r.name (steps_in names (net_field names r.net)))) free
    ∙ ap (take_steps p r.name) read.steps
    ∙ ap (λ x. unless_by x NoRoom (Ok (with_rule p r))) (lt-leb 8 (length p.rules) room)
