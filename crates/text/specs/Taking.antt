-- A page with one line more, or the fault for which the line is not taken.
use Rattle.std.specs.Prelude.{◌≡◌, ℕ, ◌+◌, Bool, cond, List, [], ◌∷◌, ◌++◌, map, length, Some, None, Ok, Err, Option, Result, nat_le, nat_lt}
use Rattle.refusal.specs.Checks.{refused_by}
use Rattle.entry.specs.Named.{taken}
use Rattle.entry.specs.Rules.{Link}
use Rattle.parts.specs.Parts.{parts}
use Rattle.word.specs.Numbers.{code_of}
use Rattle.body.specs.Bodies.{body_of}
use Rattle.body.specs.Entries.{Entry}
use Rattle.line.specs.Lines.{line_fault}
use Rattle.line.specs.Said.{Says, nothing, motif, rule, boxes, mark, line_says}
use Rattle.line.specs.declared.faults.LineFault.{LineFault}
use Rattle.entry.specs.Named.{number_in}
use Rattle.text.specs.Nets.{net_in, steps_in}
use Rattle.text.specs.Pages.{MotifEntry, Page, RuleEntry, motif_names_in, rule_names_in}
use Rattle.text.specs.declared.faults.TextFault.{TextFault}
use Rattle.text.specs.declared.faults.TextFault.TheVariants.{LineTooLong, Line, NameTaken, UnknownMotif, NoRoom}

-- `unless_by test e r`   e where the test holds, else r
abbrev pub unless_by : Bool → TextFault → Result Page TextFault → Result Page TextFault
unless_by test e r = cond test (Err e) r

abbrev pub body_in : Result (Option (List Entry)) ℕ → Option (List Entry)
body_in (Ok b) = b
body_in (Err p) = None

abbrev pub with_motif : Page → MotifEntry → Page
with_motif p m = record { motifs = p.motifs ++ m ∷ []; rules = p.rules; row = p.row; marks = p.marks }

abbrev pub with_rule : Page → RuleEntry → Page
with_rule p r = record { motifs = p.motifs; rules = p.rules ++ r ∷ []; row = p.row; marks = p.marks }

abbrev pub with_boxes : Page → List ℕ → Page
with_boxes p cs = record { motifs = p.motifs; rules = p.rules; row = p.row ++ cs; marks = p.marks }

abbrev pub with_mark : Page → ℕ → ℕ → ℕ → Page
with_mark p k a b = record { motifs = p.motifs; rules = p.rules; row = p.row; marks = p.marks ++ record { motif = k; start = a; end = b } ∷ [] }

abbrev pub with_motif_taken : Page → List ℕ → ℕ → List ℕ → Result Page TextFault
with_motif_taken p n w b =
    unless_by (taken n (motif_names_in p)) NameTaken (unless_by (nat_le 16 (length p.motifs)) NoRoom (Ok (with_motif p (record { name = n; weight = w; body = body_in (body_of b) }))))

-- NET begins behind `r,`, the name and a comma
abbrev pub take_steps : Page → List ℕ → Result (List Link) ℕ → Result Page TextFault
take_steps p n (Err q) = Err (UnknownMotif (3 + length n + q))
take_steps p n (Ok ls) = unless_by (nat_le 8 (length p.rules)) NoRoom (Ok (with_rule p (record { name = n; net = net_in ls })))

abbrev pub with_rule_taken : Page → List ℕ → List ℕ → Result Page TextFault
with_rule_taken p n t = unless_by (taken n (rule_names_in p)) NameTaken (take_steps p n (steps_in (motif_names_in p) t))

abbrev pub codes_in : List ℕ → List ℕ
codes_in c = map code_of (parts 32 c)

abbrev pub with_boxes_taken : Page → List ℕ → Result Page TextFault
with_boxes_taken p c = unless_by (nat_lt 20000 (length p.row + length (codes_in c))) NoRoom (Ok (with_boxes p (codes_in c)))

abbrev pub take_mark_of : Page → Option ℕ → ℕ → ℕ → Result Page TextFault
take_mark_of p None a b = Err (UnknownMotif 2)
take_mark_of p (Some k) a b = unless_by (nat_le 4000 (length p.marks)) NoRoom (Ok (with_mark p k a b))

abbrev pub with_mark_taken : Page → List ℕ → ℕ → ℕ → Result Page TextFault
with_mark_taken p n a b = take_mark_of p (number_in n (motif_names_in p)) a b

-- `take p s`       the page p with what a line says
abbrev pub take : Page → Says → Result Page TextFault
take p nothing = Ok p
take p (motif n w b) = with_motif_taken p n w b
take p (rule n t) = with_rule_taken p n t
take p (boxes c) = with_boxes_taken p c
take p (mark n a b) = with_mark_taken p n a b

abbrev pub take_judged : Page → Option LineFault → Says → Result Page TextFault
take_judged p (Some e) s = Err (Line e)
take_judged p None s = take p s

-- `with_line_taken p l`   the page p with the line l
abbrev pub with_line_taken : Page → List ℕ → Result Page TextFault
with_line_taken p l = unless_by (nat_lt 200 (length l)) LineTooLong (take_judged p (line_fault l) (line_says l))

-- `fault_in r`, `page_or p r`   why a line is not taken, and the page after it: p where it is not
abbrev pub fault_in : Result Page TextFault → Option TextFault
fault_in (Ok q) = None
fault_in (Err e) = Some e

abbrev pub page_or : Page → Result Page TextFault → Page
page_or p (Ok q) = q
page_or p (Err e) = p

-- `Takes said before after r`  the answer refuses by the fault of what was to be taken, or by none, and the page after is the one that it leaves
pub record Takes (said : Result Page TextFault) (before after : Page) (r : Result (Unit {0}) TextFault) : Type 0 where
  pub refused : refused_by r ≡ fault_in said
  pub page : after ≡ page_or before said
