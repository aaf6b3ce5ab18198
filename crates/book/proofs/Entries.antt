-- What an added entry leaves true of the entries of a book and a chapter.
use Rattle.std.proofs.Common.{◌≡◌, ℕ, zero, suc, ◌<◌, ◌≤◌, Bool, true, false, cond, not, ◌&&◌, ltb, leb, List, [], ◌∷◌, ◌++◌, length, get_or, sym, refl, ap, ⊎_elim, arith}
use Rattle.std.specs.Str.{bytes_eq}
use Rattle.std.proofs.lemmas.List.{length_push}
use Rattle.std.proofs.lemmas.Slice.Eq.{bytes_eq-Decides}
use Rattle.std.proofs.lemmas.Bool.{and_parts, and_from, or_parts, or_from, not-true, not_from_false, cases_Bool, both_ways, ltb-true, lt-ltb}
use Rattle.std.specs.List.{list_all, list_any}
use Rattle.book.specs.Entries.{distinct, Unique, known, all_known, held, all_held}
use Rattle.entry.specs.Named.{taken}
use Rattle.entry.specs.Rules.{motifs_of}
use Rattle.entry.specs.declared.mark.Mark.{Mark}
use Rattle.entry.specs.declared.rule.Rule.{Rule}

pub every-push : {X : Type 0} (test : X → Bool) (xs : List X) (y : X) → list_all test xs ≡ true → test y ≡ true → list_all test (xs ++ y ∷ []) ≡ true
every-push test [] y h t = and_from (test y) true t refl
every-push test (x ∷ xs) y h t =
    let p = and_parts (test x) (list_all test xs) h in
    and_from (test x) (list_all test (xs ++ y ∷ [])) p.0 (every-push test xs y p.1 t)

-- a test that a weaker one follows
pub every_weaker : {X : Type 0} (test test' : X → Bool) → ((x : X) → test x ≡ true → test' x ≡ true) → (xs : List X) → list_all test xs ≡ true → list_all test' xs ≡ true
every_weaker test test' so [] h = refl
every_weaker test test' so (x ∷ xs) h =
    let p = and_parts (test x) (list_all test xs) h in
    and_from (test' x) (list_all test' xs) (so x p.0) (every_weaker test test' so xs p.1)

any_push : {X : Type 0} (test : X → Bool) (xs : List X) (y : X) → list_any test xs ≡ false → test y ≡ false → list_any test (xs ++ y ∷ []) ≡ false
any_push test [] y h t = or_from (test y) false t refl
any_push test (x ∷ xs) y h t =
    let p = or_parts (test x) (list_any test xs) h in
    or_from (test x) (list_any test (xs ++ y ∷ [])) p.0 (any_push test xs y p.1 t)

not_same : (m n : List ℕ) → bytes_eq n m ≡ false → bytes_eq m n ≡ false
not_same m n h =
    ⊎_elim
    (λ t. absurd (both_ways (bytes_eq n m) h ((bytes_eq-Decides n m).1 (sym ((bytes_eq-Decides m n).0 t)))))
    (λ f. f)
    (cases_Bool (bytes_eq m n))

pub distinct_push : (ns : List (List ℕ)) (n : List ℕ) → distinct ns ≡ true → taken n ns ≡ false → distinct (ns ++ n ∷ []) ≡ true
distinct_push [] n d t = refl
distinct_push (m ∷ ns) n d t =
    let p = and_parts (not (taken m ns)) (distinct ns) d in
    let q = or_parts (bytes_eq n m) (taken n ns) t in
    let free = any_push (bytes_eq m) ns n (not-true (taken m ns) p.0) (not_same m n q.0) in
    and_from (not (taken m (ns ++ n ∷ []))) (distinct (ns ++ n ∷ [])) (not_from_false (taken m (ns ++ n ∷ [])) free) (distinct_push ns n p.1 q.1)

free_at : (n : List ℕ) (ns : List (List ℕ)) → taken n ns ≡ false → (i : ℕ) → i < length ns → n ≡ get_or ns i [] → ⊥
free_at n [] t i h e = omega arith
free_at n (m ∷ ns) t zero h e =
    let p = or_parts (bytes_eq n m) (taken n ns) t in
    both_ways (bytes_eq n m) p.0 ((bytes_eq-Decides n m).1 e)
free_at n (m ∷ ns) t (suc i) h e = free_at n ns (or_parts (bytes_eq n m) (taken n ns) t).1 i (omega arith) e

pub distinct_unique : (ns : List (List ℕ)) → distinct ns ≡ true → Unique ns
distinct_unique [] d i j h h' e = absurd (omega arith)
distinct_unique (n ∷ ns) d zero zero h h' e = refl
distinct_unique (n ∷ ns) d zero (suc j) h h' e =
    absurd (free_at n ns (not-true (taken n ns) (and_parts (not (taken n ns)) (distinct ns) d).0) j (omega arith) e)
distinct_unique (n ∷ ns) d (suc i) zero h h' e =
    absurd (free_at n ns (not-true (taken n ns) (and_parts (not (taken n ns)) (distinct ns) d).0) i (omega arith) (sym e))
distinct_unique (n ∷ ns) d (suc i) (suc j) h h' e =
    ap suc (distinct_unique ns (and_parts (not (taken n ns)) (distinct ns) d).1 i j (omega arith) (omega arith) e)

below_more : (n n' k : ℕ) → n ≤ n' → ltb k n ≡ true → ltb k n' ≡ true
below_more n n' k le h = lt-ltb k n' (omega (arith, ltb-true k n h))

-- with more motifs in the book, what was known and what was held is so still
pub known_more : (n n' : ℕ) → n ≤ n' → (rs : List Rule) → all_known n rs ≡ true → all_known n' rs ≡ true
known_more n n' le rs h =
    every_weaker (known n) (known n') (λ r k. every_weaker (λ k. ltb k n) (λ k. ltb k n') (λ k. below_more n n' k le) (motifs_of r) k) rs h

pub held_more : (n n' : ℕ) → n ≤ n' → (ms : List Mark) → all_held n ms ≡ true → all_held n' ms ≡ true
held_more n n' le ms h =
    every_weaker (held n) (held n')
    (λ m k.
    let places = leb m.start 20000 && leb m.end 20000 in
    let p = and_parts (ltb m.motif n) places k in
    and_from (ltb m.motif n') places (below_more n n' m.motif le p.0) p.1)
    ms h

-- a list that was perhaps added to is no shorter
pub no_shorter : {X : Type 0} (added : Bool) (xs ys : List X) (x : X) → ys ≡ cond added (xs ++ x ∷ []) xs → length xs ≤ length ys
no_shorter true xs ys x e = omega (arith, ap length e, length_push xs x)
no_shorter false xs ys x e = omega (arith, ap length e)
