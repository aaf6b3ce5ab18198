-- Which fault a line has: the first of the numbers, wherever it stands in the line; and within a number the first place.
use Rattle.std.specs.Prelude.{ℕ, not, List, [], ◌∷◌, length, Some, None, Option, ◌==◌}
use Rattle.refusal.specs.Checks.{refuse, refused_by}
use Rattle.parts.specs.Parts.{tally}
use Rattle.shape.specs.Follow.{misfit}
use Rattle.shape.specs.Grammar.{shape_of}
use Rattle.shape.specs.declared.Form.{Form}
use Rattle.shape.specs.declared.Form.TheVariants.{Number, Codes, Body, Net}
use Rattle.word.specs.Faults.{letters_fault, name_fault, numbers_fault, raised}
use Rattle.word.specs.declared.limits.Limits.{Limits}
use Rattle.word.specs.declared.limits.Limits.TheVariants.{Code, Shift, Place}
use Rattle.word.specs.declared.faults.WordFault.{WordFault}
use Rattle.body.specs.Bodies.{body_of}
use Rattle.net.specs.Tokens.{backward, names_over, net_tokens}
use Rattle.line.specs.Fields.{Placed, commas_of, fields, kind_in}
use Rattle.line.specs.declared.kinds.Kind.{Kind}
use Rattle.line.specs.declared.kinds.Kind.TheVariants.{Motif, Rule, Boxes, Mark}
use Rattle.line.specs.declared.faults.LineFault.{LineFault}
use Rattle.line.specs.declared.faults.LineFault.TheVariants.{UnknownKind, WrongCommas, Word, BadShape, BackwardRange, TooMany}

-- `first x y`      the fault x, else y
infixr 25 ◌else◌
abbrev pub ◌else◌ : {E : Type 0} → Option E → Option E → Option E
◌else◌ None y = y
◌else◌ (Some e) y = Some e

abbrev pub in_word : Option WordFault → Option LineFault
in_word None = None
in_word (Some e) = Some (Word e)

-- the checks of a field

abbrev pub bad_name : Placed → Option LineFault
bad_name f = in_word (name_fault f.at f.bytes)

abbrev pub bad_letters : Placed → Option LineFault
bad_letters f = in_word (letters_fault f.at f.bytes)

abbrev pub bad_number : Limits → Placed → Option LineFault
bad_number m f = in_word (numbers_fault m f.at f.bytes)

abbrev pub bad_shape : Form → Placed → Option LineFault
bad_shape form f = raised BadShape f.at (misfit (shape_of form) f.bytes)

abbrev pub backward_range : Placed → Option LineFault
backward_range f = raised BackwardRange f.at (backward (net_tokens f.bytes))

abbrev pub too_many_names : Placed → Option LineFault
too_many_names f = raised TooMany f.at (names_over 0 (net_tokens f.bytes))

abbrev pub too_many_items : Placed → Option LineFault
too_many_items f = raised TooMany f.at (refused_by (body_of f.bytes))

-- the checks of a line, in their order

abbrev pub motif_fault : Placed → Placed → Placed → Option LineFault
motif_fault name weight body =
    bad_name name else bad_number Code weight else bad_number Code body else bad_shape Number weight else bad_shape Body body else too_many_items body

abbrev pub rule_fault : Placed → Placed → Option LineFault
rule_fault name net =
    bad_name name else bad_letters net else bad_number Shift net else bad_shape Net net else backward_range net else too_many_names net

abbrev pub boxes_fault : Placed → Option LineFault
boxes_fault codes = bad_number Code codes else bad_shape Codes codes

abbrev pub mark_fault : Placed → Placed → Placed → Option LineFault
mark_fault name start end =
    bad_name name else bad_number Place start else bad_number Place end else bad_shape Number start else bad_shape Number end

-- `fields_fault k fs`   the fields of a line of the kind k that has all its commas
abbrev pub fields_fault : Kind → List Placed → Option LineFault
fields_fault k [] = None
fields_fault Motif (n ∷ []) = None
fields_fault Motif (n ∷ w ∷ []) = None
fields_fault Motif (n ∷ w ∷ b ∷ fs) = motif_fault n w b
fields_fault Rule (n ∷ []) = None
fields_fault Rule (n ∷ t ∷ fs) = rule_fault n t
fields_fault Boxes (c ∷ fs) = boxes_fault c
fields_fault Mark (n ∷ []) = None
fields_fault Mark (n ∷ a ∷ []) = None
fields_fault Mark (n ∷ a ∷ b ∷ fs) = mark_fault n a b

abbrev pub kind_fault : Option Kind → List ℕ → Option LineFault
kind_fault None l = Some UnknownKind
kind_fault (Some k) l = refuse (not (tally 44 l == commas_of k)) (WrongCommas (length l)) (fields_fault k (fields l))

-- `line_fault l`    the fault of a line, if it has one
abbrev pub line_fault : List ℕ → Option LineFault
line_fault l = kind_fault (kind_in l) l
