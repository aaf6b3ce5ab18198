-- Where items stand, said box by box.
use Rattle.std.proofs.Common.{◌≡◌, ℕ, zero, suc, ◌+◌, ◌<◌, ◌≤◌, true, List, [], ◌∷◌, length, get_or, drop, Decides, sym, refl, ap, ◌∙◌, arith}
use Rattle.std.proofs.lemmas.List.{get_or-drop, length-drop}
use Rattle.std.proofs.lemmas.Bool.{and_parts, and_from, eq-eqb, false≢true}
use Rattle.book.specs.Adding.{motifs_in}
use Rattle.book.specs.declared.values.book.Book.{Book}
use Rattle.entry.specs.Bodies.{fits, all_fit}
use Rattle.entry.specs.declared.body.Item.{Item}
use Rattle.row.specs.Row.{StandsAt, items_from, row_meaning, stands}
use Rattle.row.specs.Laws.{standing}

fit-boxes : (is : List Item) (ys : List ℕ) → all_fit is ys ≡ true → (j : ℕ) (d : Item) → j < length is → fits (get_or is j d) (get_or ys j 0) ≡ true
fit-boxes [] ys h j d l = absurd (omega arith)
fit-boxes (i ∷ is) [] h j d l = absurd (false≢true h)
fit-boxes (i ∷ is) (y ∷ ys) h zero d l = (and_parts (fits i y) (all_fit is ys) h).0
fit-boxes (i ∷ is) (y ∷ ys) h (suc j) d l = fit-boxes is ys (and_parts (fits i y) (all_fit is ys) h).1 j d (omega arith)

boxes-fit : (is : List Item) (ys : List ℕ) → length is ≤ length ys → ((j : ℕ) (d : Item) → j < length is → fits (get_or is j d) (get_or ys j 0) ≡ true) → all_fit is ys ≡ true
boxes-fit [] ys l all = refl
boxes-fit (i ∷ is) [] l all = absurd (omega arith)
boxes-fit (i ∷ is) (y ∷ ys) l all =
    and_from (fits i y) (all_fit is ys) (all zero i (omega arith)) (boxes-fit is ys (omega arith) (λ j d h. all (suc j) d (omega arith)))

stands_from : (is : List Item) (xs : List ℕ) (a b : ℕ) → 0 < length is → b ≡ a + length is → all_fit is (drop a xs) ≡ true → stands is xs a b ≡ true
stands_from [] xs a b h e f = absurd (omega arith)
stands_from (i ∷ is) xs a b h e f = and_from _ _ (eq-eqb b (a + length (i ∷ is)) e) f

stands_decides : (is : List Item) (xs : List ℕ) (a b : ℕ) → Decides (stands is xs a b) (StandsAt is xs a b)
stands_decides is xs a b = (
  (λ h.
      let p = standing is xs a b h in
      record {
        some = p.some;
        ends = p.ends;
        inside = p.inside;
        boxes = λ j d l. ap (fits (get_or is j d)) (sym (get_or-drop a xs j 0)) ∙ fit-boxes is (drop a xs) p.fitted j d l;
      }),
  λ s.
      let long : length is ≤ length (drop a xs) = omega (arith, length-drop a xs, s.ends, s.inside, s.some) in
      stands_from is xs a b s.some s.ends (boxes-fit is (drop a xs) long (λ j d l. ap (fits (get_or is j d)) (get_or-drop a xs j 0) ∙ s.boxes j d l)),
)

pub row_decides : (xs : List ℕ) (book : Book) (k a b : ℕ) → Decides ((row_meaning xs book).has k a b) (StandsAt (items_from (motifs_in book) k) xs a b)
row_decides xs book k a b = stands_decides (items_from (motifs_in book) k) xs a b
