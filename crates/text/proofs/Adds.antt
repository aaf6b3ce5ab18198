-- What is added to a chapter is added to its page.
use Rattle.std.proofs.Common.{◌≡◌, ℕ, ◌+◌, ◌<◌, ◌≤◌, Bool, true, false, not, ltb, leb, List, [], ◌∷◌, ◌++◌, map, length, Some, None, Ok, Err, is_ok, vec_items, Option, Result, sym, refl, ap, ◌∙◌, arith}
use Rattle.std.proofs.lemmas.List.{length-map, map_push}
use Rattle.std.proofs.lemmas.Bool.{le-ltb, lt-leb, ne_eqb, or_from}
use Rattle.refusal.specs.Checks.{refuse, refused_by}
use Rattle.std.specs.Prelude.{OnErr}
use Rattle.refusal.specs.declared.Refusal.{Refusal}
use Rattle.refusal.specs.declared.Refusal.TheVariants.{BadNumber as ByNumber, BadShape as ByShape, NameTaken as ByTaken, NoRoom as ByRoom, UnknownMotif as ByUnknown}
use Rattle.book.specs.Adding.{motifs_in, rules_in, row_of, marks_of, boxes_fault, mark_fault, motif_fault, rule_add_fault}
use Rattle.book.specs.Entries.{known, motif_names, rule_names}
use Rattle.entry.specs.Named.{taken}
use Rattle.entry.specs.Rules.{Link, net_of}
use Rattle.entry.specs.Named.{letters_of}
use Rattle.book.specs.declared.values.chapter.Chapter.{Chapter}
use Rattle.entry.specs.declared.mark.Mark.{Mark}
use Rattle.entry.specs.declared.motif.Motif.{Motif}
use Rattle.entry.specs.declared.rule.Rule.{Rule}
use Rattle.body.specs.Bodies.{body_of}
use Rattle.body.specs.Entries.{entries_of}
use Rattle.text.specs.Pages.{MotifEntry, Page, RuleEntry, motif_entry, motif_names_in, page_of, rule_entry, rule_names_in}
use Rattle.text.specs.Taking.{body_in, fault_in, page_or, with_mark_taken, take_mark_of, with_motif_taken, with_rule_taken, take_steps, unless_by, with_boxes, with_mark, with_motif, with_rule}
use Rattle.entry.specs.Named.{number_in}
use Rattle.text.specs.Held.{steps_or}
use Rattle.text.specs.Nets.{net_in, steps_in}
use Rattle.text.specs.declared.steps.Steps.{Steps}
use Rattle.text.specs.declared.faults.TextFault.{TextFault}
use Rattle.text.specs.declared.faults.TextFault.TheVariants.{NameTaken, NoRoom, UnknownMotif}

pub map-map : {X Y Z : Type 0} (f : Y → Z) (g : X → Y) (xs : List X) → map f (map g xs) ≡ map (λ x. f (g x)) xs
map-map f g [] = refl
map-map f g (x ∷ xs) = ap (λ ys. f (g x) ∷ ys) (map-map f g xs)

pub motif_names_lem : (c : Chapter) → motif_names_in (page_of c) ≡ motif_names (motifs_in c.book)
motif_names_lem c = map-map (λ m. m.name) motif_entry (motifs_in c.book)

pub rule_names_lem : (c : Chapter) → rule_names_in (page_of c) ≡ rule_names (rules_in c.book)
rule_names_lem c = map-map (λ r. r.name) rule_entry (rules_in c.book)

-- `Took p r o f`   by the result r of taking a line into the page p, o is the page after it, and f its fault
pub record Took (p : Page) (r : Result Page TextFault) (o : Page) (f : Option TextFault) : Type 0 where
  pub refused : f ≡ fault_in r
  pub page : o ≡ page_or p r

pub took : (p q o : Page) (r : Result Page TextFault) → r ≡ Ok q → o ≡ q → Took p r o None
took p q o r e h = record { refused = sym (ap fault_in e); page = h ∙ sym (ap (page_or p) e) }

pub kept : (p o : Page) (r : Result Page TextFault) (f : TextFault) → r ≡ Err f → o ≡ p → Took p r o (Some f)
kept p o r f e h = record { refused = sym (ap fault_in e); page = h ∙ sym (ap (page_or p) e) }

pub page_is : {ms ns : List MotifEntry} {rs ss : List RuleEntry} {a b : List ℕ} {x y : List Mark} → ms ≡ ns → rs ≡ ss → a ≡ b → x ≡ y → ◌≡◌ {A = Page} (record { motifs = ms; rules = rs; row = a; marks = x }) (record { motifs = ns; rules = ss; row = b; marks = y })
page_is e f g h = cc

-- the last check is for room

pub room : (p q o : Page) (r : Result Page TextFault) (u : Bool) (f : Option Refusal) → r ≡ unless_by u NoRoom (Ok q) → f ≡ refuse u ByRoom None → None ≡ f → o ≡ q → Took p r o None
room p q o r true f e g h s = let z : ◌≡◌ {A = ℕ} 0 1 = cc in absurd (omega arith)
room p q o r false f e g h s = took p q o r e s

pub no_room : (p q o : Page) (r : Result Page TextFault) (u : Bool) (f : Option Refusal) (x : Refusal) → r ≡ unless_by u NoRoom (Ok q) → f ≡ refuse u ByRoom None → Some x ≡ f → o ≡ p → Took p r o (Some NoRoom)
no_room p q o r true f x e g h s = kept p o r NoRoom e s
no_room p q o r false f x e g h s = let z : ◌≡◌ {A = ℕ} 0 1 = cc in absurd (omega arith)

-- the fault that a refusal to add turns into
abbrev pub fault_by : {X : Type 0} → Result X Refusal → Option TextFault
fault_by (Ok x) = None
fault_by (Err e) = Some NoRoom

pub settled : {X : Type 0} (p q o : Page) (t : Result Page TextFault) (u : Bool) (f : Option Refusal) (r : Result X Refusal) → t ≡ unless_by u NoRoom (Ok q) → f ≡ refuse u ByRoom None → refused_by r ≡ f → (is_ok r ≡ true → o ≡ q) → (is_ok r ≡ false → o ≡ p) → Took p t o (fault_by r)
settled p q o t u f (Ok x) e g h fine not = room p q o t u f e g h (fine refl)
settled p q o t u f (Err x) e g h fine not = no_room p q o t u f x e g h (not refl)

pub when_err : {X E P : Type 0} (r : Result X E) → OnErr r P → is_ok r ≡ false → P
when_err (Ok x) h e = let z : ◌≡◌ {A = ℕ} 0 1 = cc in absurd (omega arith)
when_err (Err x) h e = h

pub unchanged : (c d : Chapter) → d.book ≡ c.book → (d.row ≡ c.row) × (d.marks ≡ c.marks) → page_of d ≡ page_of c
unchanged c d e g =
    page_is (ap (λ x. map motif_entry (motifs_in x)) e) (ap (λ x. map rule_entry (rules_in x)) e) (ap vec_items g.0) (ap vec_items g.1)

-- a motif

module _ (c : Chapter) (m : Motif) (n : List ℕ) (w : ℕ) (b : List ℕ) (name : letters_of m.name ≡ n) (weight : m.weight ≡ w) (body : entries_of m.body ≡ body_in (body_of b)) where
  entry : motif_entry m ≡ record { name = n; weight = w; body = body_in (body_of b) }
  entry = cc (name, weight, body)

  abbrev Q : Page
  Q = with_motif (page_of c) (record { name = n; weight = w; body = body_in (body_of b) })

  pub motif-left : taken n (motif_names (motifs_in c.book)) ≡ false → with_motif_taken (page_of c) n w b ≡ unless_by (leb 16 (length (motifs_in c.book))) NoRoom (Ok (with_motif (page_of c) (record { name = n; weight = w; body = body_in (body_of b) })))
  motif-left t =
      ap (λ x. unless_by x NameTaken (unless_by (leb 16 (length (page_of c).motifs)) NoRoom (Ok Q))) (ap (taken n) (motif_names_lem c) ∙ t) ∙ ap (λ x. unless_by (leb 16 x) NoRoom (Ok Q)) (length-map (motifs_in c.book) motif_entry)

  pub motif-fault : taken n (motif_names (motifs_in c.book)) ≡ false → motif_fault c.book m ≡ refuse (leb 16 (length (motifs_in c.book))) ByRoom None
  motif-fault t = ap (λ x. refuse x ByTaken (refuse (leb 16 (length (motifs_in c.book))) ByRoom None)) (ap (λ x. taken x (motif_names (motifs_in c.book))) name ∙ t)

  pub motif_added : (d : Chapter) → motifs_in d.book ≡ motifs_in c.book ++ m ∷ [] → rules_in d.book ≡ rules_in c.book → (d.row ≡ c.row) × (d.marks ≡ c.marks) → page_of d ≡ with_motif (page_of c) (record { name = n; weight = w; body = body_in (body_of b) })
  motif_added d e f g =
      page_is (ap (map motif_entry) e ∙ map_push motif_entry (motifs_in c.book) m ∙ ap (λ x. map motif_entry (motifs_in c.book) ++ x ∷ []) entry) (ap (map rule_entry) f) (ap vec_items g.0) (ap vec_items g.1)

pub motif_taken : (c : Chapter) (n : List ℕ) (w : ℕ) (b : List ℕ) → taken n (motif_names (motifs_in c.book)) ≡ true → with_motif_taken (page_of c) n w b ≡ Err NameTaken
motif_taken c n w b t = ap (λ x. unless_by x NameTaken (unless_by (leb 16 (length (page_of c).motifs)) NoRoom (Ok (with_motif (page_of c) (record { name = n; weight = w; body = body_in (body_of b) }))))) (ap (taken n) (motif_names_lem c) ∙ t)

-- a rule

module _ (c : Chapter) (n t : List ℕ) where
  abbrev read : Result (List Link) ℕ
  read = steps_in (motif_names (motifs_in c.book)) t

  opened : (x : Bool) → taken n (rule_names (rules_in c.book)) ≡ x → with_rule_taken (page_of c) n t ≡ unless_by x NameTaken (take_steps (page_of c) n read)
  opened x h = ap (λ ns. unless_by (taken n ns) NameTaken (take_steps (page_of c) n (steps_in (motif_names_in (page_of c)) t))) (rule_names_lem c) ∙ ap (λ y. unless_by y NameTaken (take_steps (page_of c) n (steps_in (motif_names_in (page_of c)) t))) h ∙ ap (λ ns. unless_by x NameTaken (take_steps (page_of c) n (steps_in ns t))) (motif_names_lem c)

  pub rule_taken : taken n (rule_names (rules_in c.book)) ≡ true → with_rule_taken (page_of c) n t ≡ Err NameTaken
  rule_taken h = opened true h

  pub rule_unknown : (q : ℕ) → taken n (rule_names (rules_in c.book)) ≡ false → Err q ≡ steps_in (motif_names (motifs_in c.book)) t → with_rule_taken (page_of c) n t ≡ Err (UnknownMotif (3 + length n + q))
  rule_unknown q h e = opened false h ∙ sym (ap (take_steps (page_of c) n) e)

  pub rule-left : (ls : List Link) → taken n (rule_names (rules_in c.book)) ≡ false → Ok ls ≡ steps_in (motif_names (motifs_in c.book)) t → with_rule_taken (page_of c) n t ≡ unless_by (leb 8 (length (rules_in c.book))) NoRoom (Ok (with_rule (page_of c) (record { name = n; net = net_in ls })))
  rule-left ls h e = opened false h ∙ sym (ap (take_steps (page_of c) n) e) ∙ ap (λ x. unless_by (leb 8 x) NoRoom (Ok (with_rule (page_of c) (record { name = n; net = net_in ls })))) (length-map (rules_in c.book) rule_entry)

-- a name that is no motif's, by its place in the line
abbrev pub unknown_at : {X : Type 0} → ℕ → Result X ℕ → Result X TextFault
unknown_at n (Ok x) = Ok x
unknown_at n (Err q) = Err (UnknownMotif (n + q))

pub rule_refused : (c : Chapter) (n t : List ℕ) (r : Result Steps ℕ) (f : TextFault) → taken n (rule_names (rules_in c.book)) ≡ false → steps_or r ≡ steps_in (motif_names (motifs_in c.book)) t → unknown_at (3 + length n) r ≡ Err f → with_rule_taken (page_of c) n t ≡ Err f
rule_refused c n t (Ok s) f h e k = let z : ◌≡◌ {A = ℕ} 0 1 = cc in absurd (omega arith)
rule_refused c n t (Err q) f h e k = let same : UnknownMotif (3 + length n + q) ≡ f = cc in rule_unknown c n t q h e ∙ ap Err same

module _ (c : Chapter) (r : Rule) (n : List ℕ) (ls : List Link) (name : letters_of r.name ≡ n) (net : net_of r ≡ net_in ls) where
  entered : rule_entry r ≡ record { name = n; net = net_in ls }
  entered = cc (name, net)

  pub rule-fault : taken n (rule_names (rules_in c.book)) ≡ false → known (length (motifs_in c.book)) r ≡ true → rule_add_fault c.book r ≡ refuse (leb 8 (length (rules_in c.book))) ByRoom None
  rule-fault h k =
      ap (λ x. refuse x ByTaken (refuse (not (known (length (motifs_in c.book)) r)) ByUnknown (refuse (leb 8 (length (rules_in c.book))) ByRoom None))) (ap (λ x. taken x (rule_names (rules_in c.book))) name ∙ h) ∙ ap (λ x. refuse (not x) ByUnknown (refuse (leb 8 (length (rules_in c.book))) ByRoom None)) k

  pub rule_added : (d : Chapter) → rules_in d.book ≡ rules_in c.book ++ r ∷ [] → motifs_in d.book ≡ motifs_in c.book → (d.row ≡ c.row) × (d.marks ≡ c.marks) → page_of d ≡ with_rule (page_of c) (record { name = n; net = net_in ls })
  rule_added d e f g =
      page_is (ap (map motif_entry) f) (ap (map rule_entry) e ∙ map_push rule_entry (rules_in c.book) r ∙ ap (λ x. map rule_entry (rules_in c.book) ++ x ∷ []) entered) (ap vec_items g.0) (ap vec_items g.1)

-- a mark

module _ (c : Chapter) (n : List ℕ) (a b : ℕ) where
  found : (o : Option ℕ) → o ≡ number_in n (motif_names (motifs_in c.book)) → with_mark_taken (page_of c) n a b ≡ take_mark_of (page_of c) o a b
  found o e = ap (λ x. take_mark_of (page_of c) x a b) (ap (number_in n) (motif_names_lem c) ∙ sym e)

  pub mark_unknown : None ≡ number_in n (motif_names (motifs_in c.book)) → with_mark_taken (page_of c) n a b ≡ Err (UnknownMotif 2)
  mark_unknown e = found None e

  pub mark-left : (k : ℕ) → Some k ≡ number_in n (motif_names (motifs_in c.book)) → with_mark_taken (page_of c) n a b ≡ unless_by (leb 4000 (length (marks_of c))) NoRoom (Ok (with_mark (page_of c) k a b))
  mark-left k e = found (Some k) e

  pub mark-fault : (k : ℕ) → k < length (motifs_in c.book) → a ≤ 20000 → b ≤ 20000 → mark_fault c (record { motif = k; start = a; end = b }) ≡ refuse (leb 4000 (length (marks_of c))) ByRoom None
  mark-fault k h x y =
      ap (λ z. refuse z ByNumber (refuse (leb (length (motifs_in c.book)) k) ByUnknown (refuse (leb 4000 (length (marks_of c))) ByRoom None))) (or_from (ltb 20000 a) (ltb 20000 b) (le-ltb 20000 a x) (le-ltb 20000 b y)) ∙ ap (λ z. refuse z ByUnknown (refuse (leb 4000 (length (marks_of c))) ByRoom None)) (lt-leb (length (motifs_in c.book)) k h)

  pub mark_added : (d : Chapter) (k : ℕ) → marks_of d ≡ marks_of c ++ record { motif = k; start = a; end = b } ∷ [] → (d.book ≡ c.book) × (d.row ≡ c.row) → page_of d ≡ with_mark (page_of c) k a b
  mark_added d k e g = page_is (ap (λ x. map motif_entry (motifs_in x)) g.0) (ap (λ x. map rule_entry (rules_in x)) g.0) (ap vec_items g.1) e

-- boxes

pub boxes-fault : (c : Chapter) (cs : List ℕ) → 0 < length cs → boxes_fault c cs ≡ refuse (ltb 20000 (length (row_of c) + length cs)) ByRoom None
boxes-fault c cs h = ap (λ z. refuse z ByShape (refuse (ltb 20000 (length (row_of c) + length cs)) ByRoom None)) (ne_eqb (length cs) 0 (λ e. omega arith))

pub boxes_added : (c d : Chapter) (cs : List ℕ) → row_of d ≡ row_of c ++ cs → (d.book ≡ c.book) × (d.marks ≡ c.marks) → page_of d ≡ with_boxes (page_of c) cs
boxes_added c d cs e g = page_is (ap (λ x. map motif_entry (motifs_in x)) g.0) (ap (λ x. map rule_entry (rules_in x)) g.0) e (ap vec_items g.1)
