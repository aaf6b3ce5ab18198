-- Writing a find.
use Rattle.std.proofs.Common.{◌≡◌, ℕ, zero, suc, ◌+◌, ◌-◌, ◌*◌, ◌<◌, List, [], ◌∷◌, ◌++◌, length, set, replicate, None, Option, Some, sym, refl, ap, ◌∙◌, append_assoc, arith}
use Rattle.std.proofs.lemmas.List.{set-append_right}
use Rattle.walk.specs.Places as W
use Rattle.walk.specs.declared.letter.Letter.{Letter}
use Rattle.walk.specs.declared.letter.Letter.TheVariants as W2
use Rattle.sheet_model.specs.Stack.{extend}
use Rattle.sheet_model.specs.Strip.{numbers_of, stretches_of}
use Rattle.stack.specs.declared.frames.Frame.{Frame}
use Rattle.stack.specs.Frames.{chain, stretch_of}
use Rattle.stack.proofs.Runs.{chain-push}
use Rattle.strip.specs.Finds.{grown_list, parts_of}

pub parts-grow : (l : Letter) (o : Option W.Placement) (s : W.Stretch) → stretches_of (extend l o s) ≡ grown_list l (parts_of o) s
parts-grow W2.L None s = refl
parts-grow W2.R None s = refl
parts-grow W2.L (Some p) s = refl
parts-grow W2.R (Some p) s = refl

pub parts-push : (fs : List Frame) (f : Frame) → parts_of (chain None (fs ++ f ∷ [])) ≡ grown_list f.letter (parts_of (chain None fs)) (stretch_of f.gone)
parts-push fs f = ap parts_of (chain-push None fs f) ∙ parts-grow f.letter (chain None fs) (stretch_of f.gone)

numbers-push : (ss : List W.Stretch) (s : W.Stretch) → numbers_of (ss ++ s ∷ []) ≡ numbers_of ss ++ s.start ∷ s.end ∷ []
numbers-push [] s = refl
numbers-push (t ∷ ss) s = ap (λ xs. t.start ∷ t.end ∷ xs) (numbers-push ss s)

numbers-length : (ss : List W.Stretch) → length (numbers_of ss) ≡ 2 * length ss
numbers-length [] = refl
numbers-length (s ∷ ss) = omega (arith, numbers-length ss)

-- two writes behind a list
set_behind : (xs ys : List ℕ) (y z a b n : ℕ) → length xs ≡ n → set (set (xs ++ y ∷ z ∷ ys) n a) (n + 1) b ≡ xs ++ a ∷ b ∷ ys
set_behind xs ys y z a b n e =
    ap (λ l. set l (n + 1) b) (set-append_right xs (y ∷ z ∷ ys) n n a e (omega arith) ∙ ap (λ k. xs ++ set (y ∷ z ∷ ys) k a) (let q : n - n ≡ zero = omega arith in q))
    ∙ set-append_right xs (a ∷ z ∷ ys) n (n + 1) b e (omega arith) ∙ ap (λ k. xs ++ set (a ∷ z ∷ ys) k b) (let q : n + 1 - n ≡ suc zero = omega arith in q)

-- one stretch more
pub put-more : (done : List W.Stretch) (behind : List ℕ) (s : W.Stretch) (i : ℕ) → length done ≡ i → i < 12 → set (set (numbers_of done ++ (replicate (24 - 2 * i) 0 ++ behind)) (2 * i) s.start) (2 * i + 1) s.end ≡ numbers_of (done ++ s ∷ []) ++ (replicate (24 - 2 * (i + 1)) 0 ++ behind)
put-more done behind s i e h =
    let k = 24 - 2 * (i + 1) in
    ap (λ m. set (set (numbers_of done ++ (replicate m 0 ++ behind)) (2 * i) s.start) (2 * i + 1) s.end) (let q : 24 - 2 * i ≡ suc (suc k) = omega arith in q)
    ∙ set_behind (numbers_of done) (replicate k 0 ++ behind) 0 0 s.start s.end (2 * i) (omega (arith, numbers-length done))
    ∙ sym (ap (λ l. l ++ (replicate k 0 ++ behind)) (numbers-push done s) ∙ append_assoc (numbers_of done) (s.start ∷ s.end ∷ []) (replicate k 0 ++ behind))
