-- Where items stand in a row, box by box as the code compares them.
use Rattle.std.proofs.Common.{nat_le, ◌≡◌, ℕ, ◌+◌, ◌-◌, ◌<◌, ◌≤◌, Bool, ◌&&◌, List, [], ◌∷◌, length, take, drop, sym, refl, ap, ◌∙◌, arith}
use Rattle.std.proofs.lemmas.List.{length-drop}
use Rattle.std.proofs.lemmas.Bool.{eq-eqb, false_from_ne_true, lt-leb}
use Rattle.std.specs.List.{list_all, slice_range, zip}
use Rattle.entry.specs.Bodies.{fits, all_fit}
use Rattle.entry.specs.declared.body.Item.{Item}
use Rattle.row.specs.Row.{stands}
use Rattle.row.specs.Laws.{standing}

-- of enough codes the first fit where each fits its item
pub fit-zip : (is : List Item) (xs : List ℕ) → length is ≤ length xs → list_all (λ p. fits p.0 p.1) (zip is (take (length is) xs)) ≡ all_fit is xs
fit-zip [] xs h = refl
fit-zip (i ∷ is) [] h = absurd (omega arith)
fit-zip (i ∷ is) (x ∷ xs) h = ap (λ rest. fits i x && rest) (fit-zip is xs (omega arith))

-- where the boxes are there, each item has to fit its own
pub stands_there : (is : List Item) (xs : List ℕ) (a b : ℕ) (t : Bool) → 0 < length is → b ≡ a + length is → b ≤ length xs → t ≡ list_all (λ p. fits p.0 p.1) (zip is (slice_range xs a b)) → t ≡ stands is xs a b
stands_there [] xs a b t some e inside each = absurd (omega arith)
stands_there (i ∷ is) xs a b t some e inside each =
    let n : b - a ≡ length (i ∷ is) = omega arith in
    each ∙ rw (n, eq-eqb b (a + length (i ∷ is)) e) (fit-zip (i ∷ is) (drop a xs) (omega (arith, length-drop a xs)))

-- nothing stands past the last box
pub stands_past : (is : List Item) (xs : List ℕ) (a b : ℕ) → length xs < b → nat_le b (length xs) ≡ stands is xs a b
stands_past is xs a b past =
    lt-leb b (length xs) past ∙ sym (false_from_ne_true (stands is xs a b) (λ h. omega (arith, (standing is xs a b h).inside)))
