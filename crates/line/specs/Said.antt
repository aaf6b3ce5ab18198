-- What a line without fault says.
use Rattle.std.specs.Prelude.{◌≡◌, ℕ, List, [], ◌∷◌, Some, None, Option, Result, IfOk}
use Rattle.refusal.specs.Checks.{refused_by}
use Rattle.word.specs.Numbers.{code_of, place_of}
use Rattle.line.specs.Fields.{Placed, fields, kind_in}
use Rattle.line.specs.Lines.{fields_fault}
use Rattle.line.specs.declared.faults.LineFault.{LineFault}
use Rattle.line.specs.declared.kinds.Kind.{Kind}
use Rattle.line.specs.declared.kinds.Kind.TheVariants.{Motif, Rule, Boxes, Mark}
use Rattle.line.specs.declared.kinds.Line.{Line}
use Rattle.line.specs.declared.kinds.Line.TheVariants.{Motif as MotifLine, Rule as RuleLine, Boxes as BoxesLine, Mark as MarkLine}

-- names, bodies, nets and codes are the bytes of their fields
pub data Says : Type 0 where
  nothing : Says
  motif : List ℕ → ℕ → List ℕ → Says
  rule : List ℕ → List ℕ → Says
  boxes : List ℕ → Says
  mark : List ℕ → ℕ → ℕ → Says

-- `says_by k fs`    what a line of the kind k says in its fields
abbrev pub says_by : Option Kind → List Placed → Says
says_by None fs = nothing
says_by (Some k) [] = nothing
says_by (Some Motif) (n ∷ []) = nothing
says_by (Some Motif) (n ∷ w ∷ []) = nothing
says_by (Some Motif) (n ∷ w ∷ b ∷ fs) = motif n.bytes (code_of w.bytes) b.bytes
says_by (Some Rule) (n ∷ []) = nothing
says_by (Some Rule) (n ∷ t ∷ fs) = rule n.bytes t.bytes
says_by (Some Boxes) (c ∷ fs) = boxes c.bytes
says_by (Some Mark) (n ∷ []) = nothing
says_by (Some Mark) (n ∷ a ∷ []) = nothing
says_by (Some Mark) (n ∷ a ∷ b ∷ fs) = mark n.bytes (place_of a.bytes) (place_of b.bytes)

abbrev pub line_says : List ℕ → Says
line_says l = says_by (kind_in l) (fields l)

-- `said x`         the same of what the reader answers
abbrev pub said : Line → Says
said (MotifLine name weight body) = motif name.now weight body.now
said (RuleLine name net) = rule name.now net.now
said (BoxesLine codes) = boxes codes.now
said (MarkLine name start end) = mark name.now start end

-- `ReadsAs k line r`  a line of the kind k is refused by the first fault of its fields, or read as it says
pub record ReadsAs (k : Kind) (line : List ℕ) (r : Result Line LineFault) : Type 0 where
  pub refused : refused_by r ≡ fields_fault k (fields line)
  pub value : IfOk r (λ x. said x ≡ says_by (Some k) (fields line))
