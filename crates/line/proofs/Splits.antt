-- The fields of a line, one by one.
use Rattle.std.proofs.Common.{◌≡◌, ℕ, ◌+◌, ◌<◌, ◌≤◌, Bool, true, false, cond, eqb, List, [], ◌∷◌, length, Some, None, sym, refl, ap, ◌∙◌, inl, inr, arith}
use Rattle.std.proofs.lemmas.Bool.{cases_lt, eqb-true, le-leb}
use Rattle.parts.specs.Parts.{IsPart, left, parts, tally}
use Rattle.parts.proofs.Cuts.{left_cut, left-none}
use Rattle.parts.proofs.Tallies.{length-parts, tally-cons}
use Rattle.line.specs.Fields.{kind_in, letter_kind}
use Rattle.line.specs.declared.kinds.Kind.{Kind}

-- a field is left only from a place within the line on
pub within : (l : List ℕ) (i : ℕ) → 0 < length (left 44 l i) → i ≤ length l
within l i h =
    elim (cases_lt (length l) i) [
      | inl k ↦ absurd (omega (arith, ap length (left-none 44 l i k)))
      | inr k ↦ k
    ]

pub fewer : (l : List ℕ) (i e : ℕ) → IsPart 44 l i e → length (left 44 l i) ≡ 1 + length (left 44 l (e + 1))
fewer l i e p = omega (arith, ap length (left_cut 44 l i e p))

-- the letter of a kind is no comma
letter : (a : ℕ) (k : Kind) → Some k ≡ letter_kind a → eqb a 44 ≡ false
letter a k e = by (eqb a 44) refl
  where
    by : (t : Bool) → eqb a 44 ≡ t → t ≡ false
    by false h = refl
    by true h = let none : letter_kind a ≡ None = ap letter_kind (eqb-true a 44 h) in let z : ◌≡◌ {A = ℕ} 0 1 = cc (e ∙ none) in absurd (omega arith)

-- behind the letter of its kind a line has as many fields as commas
pub as_many : (l : List ℕ) (k : Kind) → Some k ≡ kind_in l → length (left 44 l 2) ≡ tally 44 l
as_many [] k e = let z : ◌≡◌ {A = ℕ} 0 1 = cc in absurd (omega arith)
as_many (a ∷ []) k e = let z : ◌≡◌ {A = ℕ} 0 1 = cc in absurd (omega arith)
as_many (a ∷ b ∷ l) k e = by (eqb b 44) e ∙ sym all
  where
    here : left 44 (a ∷ b ∷ l) 2 ≡ parts 44 l
    here = ap (λ t. cond t (parts 44 l) []) (le-leb 2 (length (a ∷ b ∷ l)) (omega arith))

    all : tally 44 (a ∷ b ∷ l) ≡ tally 44 l + cond (eqb b 44) 1 0 + cond (eqb a 44) 1 0
    all = tally-cons 44 a (b ∷ l) ∙ ap (λ n. n + cond (eqb a 44) 1 0) (tally-cons 44 b l)

    by : (t : Bool) → Some k ≡ cond t (letter_kind a) None → length (left 44 (a ∷ b ∷ l) 2) ≡ tally 44 l + cond t 1 0 + cond (eqb a 44) 1 0
    by true f = ap length here ∙ length-parts 44 l ∙ sym (ap (λ t. tally 44 l + 1 + cond t 1 0) (letter a k f) ∙ omega arith)
    by false f = let z : ◌≡◌ {A = ℕ} 0 1 = cc in absurd (omega arith)
