-- A written line, parted into its fields.
use Rattle.std.proofs.Common.{◌≡◌, ℕ, ◌+◌, false, cond, not, eqb, List, [], ◌∷◌, ◌++◌, length, Some, ap, ◌∙◌, arith}
use Rattle.std.proofs.lemmas.Bool.{eq-eqb, le-leb}
use Rattle.std.specs.List.{AllByRecursion}
use Rattle.refusal.specs.Checks.{refuse}
use Rattle.parts.specs.Parts.{parts, tally}
use Rattle.parts.proofs.Cuts.{Lacks}
use Rattle.parts.proofs.Tallies.{tally-cons}
use Rattle.line.specs.Fields.{commas_of, fields, letter_kind, placed}
use Rattle.line.specs.Lines.{fields_fault, kind_fault, line_fault}
use Rattle.line.specs.Said.{line_says, says_by}
use Rattle.line.specs.declared.kinds.Kind.{Kind}
use Rattle.line.specs.declared.faults.LineFault.TheVariants.{WrongCommas}
use Rattle.writing.specs.Joined.{behind}
use Rattle.writing.specs.Lines.{line_of}
use Rattle.writing.proofs.Parting.{joined-tally, parted}

module _ (a : ℕ) (f : List ℕ) (fs : List (List ℕ)) (h : Lacks 44 f) (k : AllByRecursion (Lacks 44) fs) where
  its_fields : fields (line_of a (f ∷ fs)) ≡ placed 2 (f ∷ fs)
  its_fields = ap (λ t. placed 2 (cond t (parts 44 (f ++ behind 44 fs)) [])) (le-leb 2 (length (line_of a (f ∷ fs))) (omega arith)) ∙ ap (placed 2) (parted 44 f fs h k)

  its_commas : eqb a 44 ≡ false → tally 44 (line_of a (f ∷ fs)) ≡ length (f ∷ fs)
  its_commas e =
      let rest = f ++ behind 44 fs in
      tally-cons 44 a (44 ∷ rest) ∙ ap (λ n. n + cond (eqb a 44) 1 0) (tally-cons 44 44 rest) ∙ ap (λ t. (tally 44 (f ++ behind 44 fs) + 1) + cond t 1 0) e ∙ omega (arith, joined-tally 44 f fs h k)

  module _ (kind : Kind) (is : letter_kind a ≡ Some kind) where
    pub line-fault : eqb a 44 ≡ false → length (f ∷ fs) ≡ commas_of kind → line_fault (line_of a (f ∷ fs)) ≡ fields_fault kind (placed 2 (f ∷ fs))
    line-fault e n =
        let l = line_of a (f ∷ fs) in
        ap (λ o. kind_fault o l) is ∙ ap (λ t. refuse (not t) (WrongCommas (length l)) (fields_fault kind (fields l))) (eq-eqb (tally 44 l) (commas_of kind) (its_commas e ∙ n)) ∙ ap (fields_fault kind) its_fields

    pub line-says : line_says (line_of a (f ∷ fs)) ≡ says_by (Some kind) (placed 2 (f ∷ fs))
    line-says = ap (λ o. says_by o (fields (line_of a (f ∷ fs)))) is ∙ ap (says_by (Some kind)) its_fields
