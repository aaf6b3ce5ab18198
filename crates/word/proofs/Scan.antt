-- Runs met one by one.
use Rattle.std.proofs.Common.{◌≡◌, ℕ, ◌+◌, ◌<◌, ◌≤◌, Bool, true, false, not, ◌&&◌, ◌⊎◌, eqb, List, [], ◌∷◌, length, get_or, drop, Some, None, Option, sym, refl, ap, ◌∙◌, inl, inr, arith}
use Rattle.std.proofs.lemmas.List.{at_drop_all, at_drop_more}
use Rattle.std.proofs.lemmas.List.Splits.{length-slice_split}
use Rattle.std.proofs.lemmas.Bool.{and_left, and_right, cond_both, eqb-false, not_from_true}
use Rattle.std.specs.List.{onto_first}
use Rattle.refusal.specs.Checks.{refuse}
use Rattle.word.specs.Runs.{Sort, fault_from, first_fault_of, runs}

-- the bytes of the runs, with one behind each
abbrev long : List (List ℕ) → ℕ
long [] = 0
long (r ∷ rs) = length r + 1 + long rs

long-onto : (b : ℕ) (rs : List (List ℕ)) → 0 < length rs → long (onto_first b rs) ≡ long rs + 1
long-onto b [] h = absurd (omega arith)
long-onto b (r ∷ rs) h = omega arith

long-runs : (part : ℕ → Bool) (w : List ℕ) → long (runs part w) ≡ length w + 1
long-runs part [] = refl
long-runs part (b ∷ w) =
    let rs = runs part w in
    cond_both (not (part b)) ([] ∷ rs) (onto_first b rs) (λ x. long x ≡ length (b ∷ w) + 1)
    (λ e. omega (arith, long-runs part w))
    (λ e. omega (arith, long-runs part w, long-onto b rs (omega (arith, length-slice_split (λ c. not (part c)) w))))

module _ (s : Sort) (w : List ℕ) where
  -- the k-th run begins at `from`, and those before it are sound
  pub record Walked (k from : ℕ) : Type 0 where
    pub found : fault_from s.sound from (drop k (runs s.part w)) ≡ first_fault_of s.part s.sound w
    pub room : from + long (drop k (runs s.part w)) ≡ length w + 1

  pub walked_none : Walked 0 0
  walked_none = record { found = refl; room = omega (arith, long-runs s.part w) }

  pub walked_all : (k from : ℕ) → length (runs s.part w) ≤ k → Walked k from → None ≡ first_fault_of s.part s.sound w
  walked_all k from h so = sym (at_drop_all (fault_from s.sound from) (runs s.part w) k h) ∙ so.found

  -- where the k-th run is r
  module _ (k from : ℕ) (so : Walked k from) (r : List ℕ) (h : (k < length (runs s.part w)) × (r ≡ get_or (runs s.part w) k r)) where
    abbrev rest : List (List ℕ)
    rest = drop (k + 1) (runs s.part w)

    opened : drop k (runs s.part w) ≡ r ∷ rest
    opened = at_drop_more (λ x. x) (runs s.part w) k r h.0 ∙ ap (λ x. x ∷ rest) (sym h.1)

    abbrev On : Bool → Option ℕ
    On t = refuse t from (fault_from s.sound (from + length r + 1) rest)

    found : On (not (eqb (length r) 0) && not (s.sound r)) ≡ first_fault_of s.part s.sound w
    found = sym (ap (fault_from s.sound from) opened) ∙ so.found

    pub ends : from + (length r + 1) + long rest ≡ length w + 1
    ends = omega (arith, so.room, ap long opened)

    pub fault_within : eqb (length r) 0 ≡ false → from < length w
    fault_within e = let some : length r ≡ 0 → ⊥ = eqb-false (length r) 0 e in omega (arith, ends)

    pub fault_here : eqb (length r) 0 ≡ false → s.sound r ≡ false → Some from ≡ first_fault_of s.part s.sound w
    fault_here e f = ap (λ t. On (not t && not false)) (sym e) ∙ ap (λ t. On (not (eqb (length r) 0) && not t)) (sym f) ∙ found

    pub walked_more : (n to : ℕ) → n ≡ k + 1 → to ≡ from + (length r + 1) → (eqb (length r) 0 ≡ true) ⊎ (s.sound r ≡ true) → Walked n to
    walked_more n to e g p =
        let passes : (not (eqb (length r) 0) && not (s.sound r)) ≡ false = elim p [
          | inl z ↦ and_left (not (eqb (length r) 0)) (not (s.sound r)) (not_from_true (eqb (length r) 0) z)
          | inr t ↦ and_right (not (eqb (length r) 0)) (not (s.sound r)) (not_from_true (s.sound r) t)
        ] in
        record {
          found = ap (λ i. fault_from s.sound to (drop i (runs s.part w))) e ∙ ap (λ a. fault_from s.sound a rest) (omega arith) ∙ ap On (sym passes) ∙ found;
          room = omega (arith, ends, ap (λ i. long (drop i (runs s.part w))) e);
        }
