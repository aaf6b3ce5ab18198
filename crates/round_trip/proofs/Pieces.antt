-- The pieces of a row: they make it up, and each has a code.
use Rattle.std.proofs.Common.{◌≡◌, ℕ, zero, suc, ◌+◌, ◌<◌, ◌≤◌, List, [], ◌∷◌, ◌++◌, length, take, drop, sym, refl, ap, ◌∙◌, append_assoc, arith, length-append, length-drop}
use Rattle.std.proofs.ByRecursion.{All-drop, All-take}
use Rattle.std.proofs.lemmas.List.{nil_from_length, take-append-drop}
use Rattle.std.specs.List.{flat_map, AllByRecursion}
use Rattle.writing.specs.Lines.{Codes}
use Rattle.round_trip.specs.Chapters.{cut, pieces}

-- one behind the other
abbrev pub laid : List (List ℕ) → List ℕ
laid ps = flat_map (λ p. p) ps

laid_mid : (done : List (List ℕ)) (x : List ℕ) (rest : List (List ℕ)) → laid (done ++ x ∷ rest) ≡ laid done ++ (x ++ laid rest)
laid_mid [] x rest = refl
laid_mid (d ∷ done) x rest = ap (λ y. d ++ y) (laid_mid done x rest) ∙ sym (append_assoc d (laid done) (x ++ laid rest))

cut-laid : (n : ℕ) (cs : List ℕ) → length cs ≤ n → laid (cut n cs) ≡ cs
cut-laid zero cs h = sym (nil_from_length cs (omega arith))
cut-laid (suc n) [] h = refl
cut-laid (suc n) (c ∷ cs) h =
    ap (λ x. take 33 (c ∷ cs) ++ x) (cut-laid n (drop 33 (c ∷ cs)) (omega (arith, length-drop 33 (c ∷ cs)))) ∙ take-append-drop 33 (c ∷ cs)

pub pieces-laid : (cs : List ℕ) → laid (pieces cs) ≡ cs
pieces-laid cs = cut-laid (length cs) cs (omega arith)

-- with a piece, those before it are no longer than the row
pub piece_room : (cs : List ℕ) (done : List (List ℕ)) (x : List ℕ) (rest : List (List ℕ)) → done ++ x ∷ rest ≡ pieces cs → length (laid done) + length x ≤ length cs
piece_room cs done x rest e =
    let all : laid done ++ (x ++ laid rest) ≡ cs = sym (laid_mid done x rest) ∙ ap laid e ∙ pieces-laid cs in
    omega (arith, ap length all, length-append (laid done) (x ++ laid rest), length-append x (laid rest))

-- a line of boxes has a code, and codes of 16 bits
abbrev pub Piece : List ℕ → Type 0
Piece cs = (0 < length cs) × Codes cs

cut-pieces : (n : ℕ) (cs : List ℕ) → Codes cs → AllByRecursion Piece (cut n cs)
cut-pieces zero cs a = tt
cut-pieces (suc n) [] a = tt
cut-pieces (suc n) (c ∷ cs) a = ((omega arith, All-take (λ x. x ≤ 65535) 33 (c ∷ cs) a), cut-pieces n (drop 33 (c ∷ cs)) (All-drop (λ x. x ≤ 65535) 33 (c ∷ cs) a))

pub pieces-lawful : (cs : List ℕ) → Codes cs → AllByRecursion Piece (pieces cs)
pieces-lawful cs a = cut-pieces (length cs) cs a
