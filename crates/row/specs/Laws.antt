-- A row means a lawful source with fair prices.
use Rattle.std.specs.Prelude.{◌≡◌, ℕ, zero, suc, ◌+◌, ◌<◌, ◌≤◌, true, List, [], ◌∷◌, length, drop, Some, None, Option, ◌==◌}
use Rattle.std.proofs.Common.{sym, arith}
use Rattle.std.proofs.lemmas.List.{length-drop, length-take}
use Rattle.std.proofs.lemmas.Bool.{and_parts, eqb-true, true≢false}
use Rattle.book.specs.Adding.{motifs_in}
use Rattle.entry.specs.Bodies.{items, items_of, fits, all_fit}
use Rattle.entry.specs.declared.body.Body.{Body}
use Rattle.entry.specs.declared.body.Item.{Item}
use Rattle.book.specs.declared.values.book.Book.{Book}
use Rattle.entry.specs.declared.motif.Motif.{Motif}
use Rattle.source.specs.Meaning.{Lawful, Fair}
use Rattle.row.specs.Row.{items_from, stands, row_meaning, row_price}

fit-long : (is : List Item) (xs : List ℕ) → all_fit is xs ≡ true → length is ≤ length xs
fit-long [] xs h = omega arith
fit-long (i ∷ is) [] h = absurd (true≢false (sym h))
fit-long (i ∷ is) (x ∷ xs) h = let t = fit-long is xs (and_parts (fits i x) (all_fit is xs) h).1 in omega arith

-- where the items stand, in parts
pub record Standing (is : List Item) (xs : List ℕ) (a b : ℕ) : Type 0 where
  pub some : 0 < length is
  pub ends : b ≡ a + length is
  pub inside : b ≤ length xs
  pub fitted : all_fit is (drop a xs) ≡ true

pub standing : (is : List Item) (xs : List ℕ) (a b : ℕ) → stands is xs a b ≡ true → Standing is xs a b
standing [] xs a b h = absurd (true≢false (sym h))
standing (i ∷ is) xs a b h =
    let p = and_parts (b == a + length (i ∷ is)) (all_fit (i ∷ is) (drop a xs)) h in
    let e = eqb-true b (a + length (i ∷ is)) p.0 in
    let l = fit-long (i ∷ is) (drop a xs) p.1 in
    record { some = omega arith; ends = e; inside = omega (arith, length-drop a xs); fitted = p.1 }

-- a motif with items is one of the list
known : (ms : List Motif) (k : ℕ) → 0 < length (items_from ms k) → k < length ms
known [] k h = absurd (omega arith)
known (m ∷ ms) zero h = omega arith
known (m ∷ ms) (suc k) h = let t = known ms k h in omega arith

pub row_lawful : (xs : List ℕ) (book : Book) → length xs ≤ 20000 → Lawful (row_meaning xs book)
row_lawful xs book short =
    let ms = motifs_in book in
    record {
      short = short;
      known = λ k a b h. let p = known ms k (standing (items_from ms k) xs a b h).some in omega (arith, p, book.sixteen, book.motifs.ok.0);
      ordered = λ k a b h. let e = (standing (items_from ms k) xs a b h).ends in omega arith;
      inside = λ k a b h. (standing (items_from ms k) xs a b h).inside;
    }

-- a body has 1 to 16 items
pub some_items : (b : Body) → 0 < length (items_of b)
some_items b = b.some

pub few_items : (b : Body) → length (items_of b) ≤ 16
few_items b = omega (arith, length-take b.items.len b.items.kept, b.items.few)

few-items : (body : Option Body) → length (items body) ≤ 16
few-items None = omega arith
few-items (Some b) = few_items b

few_at : (ms : List Motif) (k : ℕ) → length (items_from ms k) ≤ 16
few_at [] k = omega arith
few_at (m ∷ ms) zero = few-items m.body
few_at (m ∷ ms) (suc k) = few_at ms k

pub row_fair : (book : Book) (k : ℕ) → Fair (row_price book k)
row_fair book k =
    let f = few_at (motifs_in book) k in
    record { some = omega arith; look_bound = omega arith; opening_bound = omega arith }
