-- One stretch on the ink: what painting leaves in each box, and that putting back takes it away.
use Rattle.std.proofs.Common.{◌≡◌, ℕ, ◌+◌, ◌-◌, ◌<◌, ◌≤◌, cond, ◌&&◌, ltb, leb, List, ◌++◌, length, get_or, take, drop, replicate, sym, ap, ◌∙◌, arith, rules}
use borrow.Rule.Slice.PartMut.{put_mid}
use lib.Seq.{paste}
use Rattle.std.proofs.lemmas.List.{length-drop, length-replicate, length-take-le, places, same_lists, take_all, take-take}
use Rattle.std.proofs.lemmas.Slice.{put_mid-paste}
use Rattle.std.proofs.lemmas.Bool.Decides.{nat_tests}

-- a write to k boxes from a on, of the first n bytes of zs
pub put_front : (a k n : ℕ) (xs ys zs : List ℕ) → n ≡ k → ys ≡ take n zs → n ≤ length zs → put_mid a k xs ys ≡ paste xs a zs n
put_front a k n xs ys zs same e long =
    put_mid-paste a k xs ys (take n zs) n e same (sym (length-take-le n zs long)) ∙ ap (λ t. take a xs ++ t ++ drop (a + n) xs) (take-take n n zs (omega arith))

pub filled : (xs ys : List ℕ) (f w v : ℕ) → f + w ≤ length xs → ys ≡ replicate (length (take w (drop f xs))) v → ys ≡ take w (replicate w v)
filled xs ys f w v h e =
    let long : length (take w (drop f xs)) ≡ w = length-take-le w (drop f xs) (omega (arith, length-drop f xs)) in
    e ∙ ap (λ n. replicate n v) long ∙ sym (take_all w (replicate w v) (omega (arith, length-replicate w v)))

pub painted_box : (xs : List ℕ) (f l v i : ℕ) → f ≤ l → l ≤ length xs → i < length xs → get_or (paste xs f (replicate (l - f) v) (l - f)) i 0 ≡ cond (leb f i && ltb i l) v (get_or xs i 0)
painted_box xs f l v i p q h = grind (arith, nat_tests, places)

-- what painting saved, put back, is the ink of before
pub back : (xs saved : List ℕ) (f w at v : ℕ) → f + w ≤ length xs → at + w ≤ length saved → paste (paste xs f (replicate w v) w) f (drop at (paste saved at (drop f xs) w)) w ≡ xs
back xs saved f w at v p q = same_lists _ _ (search (rules, places)) (λ k d h. grind (arith, places))
