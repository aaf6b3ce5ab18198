-- What a row and a book mean as a source: a motif stands where the boxes fit the items of its body.
use Rattle.std.specs.Prelude.{◌≡◌, ℕ, ◌+◌, ◌<◌, ◌≤◌, max, Bool, true, false, ◌&&◌, List, [], ◌∷◌, map, length, drop, None, Option, ◌==◌, nat_lt, slice_index, slice_index_or}
use Rattle.refusal.specs.Checks.{refuse}
use Rattle.refusal.specs.declared.Refusal.{Refusal}
use Rattle.refusal.specs.declared.Refusal.TheVariants.{SourceTooLong}
use Rattle.book.specs.Adding.{motifs_in}
use Rattle.entry.specs.Bodies.{items, fits, all_fit}
use Rattle.entry.specs.declared.body.Item.{Item}
use Rattle.book.specs.declared.values.book.Book.{Book}
use Rattle.entry.specs.declared.motif.Motif.{Motif}
use Rattle.source.specs.Meaning.{Meaning, Price}

-- `items_from ms k`        the items of motif k's body; none where it has no body, or there is no such motif
abbrev pub items_from : List Motif → ℕ → List Item
items_from ms k = slice_index_or (map (λ m. items m.body) ms) k []

-- `stands is xs a b`    (a, b) covers one box for each item, and each box fits; no items stand nowhere
abbrev pub stands : List Item → List ℕ → ℕ → ℕ → Bool
stands [] xs a b = false
stands (i ∷ is) xs a b = b == a + length (i ∷ is) && all_fit (i ∷ is) (drop a xs)

-- the same in words: one box for each item, within the row, and each box fits its item
pub record StandsAt (is : List Item) (xs : List ℕ) (a b : ℕ) : Type 0 where
  pub some : 0 < length is
  pub ends : b ≡ a + length is
  pub inside : b ≤ length xs
  pub boxes : (j : ℕ) (d : Item) → j < length is → fits (slice_index_or is j d) (slice_index xs (a + j)) ≡ true

abbrev pub row_meaning : List ℕ → Book → Meaning
row_meaning xs book = record { boxes = length xs; has = λ k a b. stands (items_from (motifs_in book) k) xs a b }

-- a look compares as many boxes as there are items; opening costs nothing
abbrev pub row_price : Book → ℕ → Price
row_price book k = record { look = max (length (items_from (motifs_in book) k)) 1; opening = 0 }

abbrev pub row_fault : ℕ → Option Refusal
row_fault n = refuse (nat_lt 20000 n) SourceTooLong None
