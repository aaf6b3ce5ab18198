-- Among names of which none comes twice, each is looked up as its number.
use Rattle.std.proofs.Common.{◌≡◌, ℕ, zero, suc, ◌+◌, ◌<◌, true, false, cond, not, List, [], ◌∷◌, length, get_or, Some, refl, ap, ◌∙◌, inl, inr, arith}
use Rattle.std.proofs.lemmas.Slice.Eq.{bytes_eq-Decides}
use Rattle.std.proofs.lemmas.Bool.{and_parts, cases_Bool}
use Rattle.std.specs.Str.{bytes_eq}
use Rattle.book.specs.Entries.{distinct}
use Rattle.entry.specs.Named.{taken}
use Rattle.book.proofs.Entries.{distinct_unique}
use Rattle.std.specs.List.{position_from}
use Rattle.entry.specs.Named.{number_in}

pub not_same : (m n : List ℕ) → (m ≡ n → ⊥) → bytes_eq m n ≡ false
not_same m n h = elim (cases_Bool (bytes_eq m n)) [ inl t ↦ absurd (h ((bytes_eq-Decides m n).0 t)) | inr f ↦ f ]

numbered : (j : ℕ) (names : List (List ℕ)) → distinct names ≡ true → (k : ℕ) → k < length names → position_from (bytes_eq (get_or names k [])) j names ≡ Some (j + k)
numbered j [] d k h = absurd (omega arith)
numbered j (n ∷ ns) d zero h = ap (λ t. cond t (Some j) (position_from (bytes_eq n) (j + 1) ns)) ((bytes_eq-Decides n n).1 refl) ∙ ap Some (omega arith)
numbered j (n ∷ ns) d (suc k) h =
    let x = get_or ns k [] in
    let other : bytes_eq x n ≡ false = not_same x n (λ e. omega (arith, distinct_unique (n ∷ ns) d (suc k) 0 h (omega arith) e)) in
    ap (λ t. cond t (Some j) (position_from (bytes_eq x) (j + 1) ns)) other ∙ numbered (j + 1) ns (and_parts (not (taken n ns)) (distinct ns) d).1 k (omega arith) ∙ ap Some (omega arith)

pub number_of : (names : List (List ℕ)) → distinct names ≡ true → (k : ℕ) → k < length names → number_in (get_or names k []) names ≡ Some k
number_of names d k h = numbered 0 names d k h ∙ ap Some (omega arith)
