-- What may follow a byte: the derivative of a shape, computed, and that it is that.
use Rattle.std.proofs.Common.{◌≡◌, ℕ, Bool, true, false, cond, ◌&&◌, ◌||◌, ◌⊎◌, List, [], ◌∷◌, ◌++◌, sym, refl, ap, ◌∙◌, subst, inl, inr}
use Rattle.std.proofs.lemmas.Bool.{and_from, and_parts, or_cases, or_left, or_right}
use Rattle.shape.specs.Kinds.{kind_of}
use Rattle.shape.specs.Follow.{may_end, seq, or_not, alt, after, has, is_never, same}
use Rattle.shape.specs.Shape.{Shape, never, empty, one, ◌then◌, ◌or◌, many, together, Each, Fits}
use Rattle.shape.proofs.Same.{same_at, same-sound, sample, sample_is}

-- they are `then` and `or`

seq_in : (r s : Shape) (w : List ℕ) → Fits (r then s) w → Fits (seq r s) w
seq_in never s w f = absurd f.3
seq_in empty s w f = subst (Fits s) (sym (f.2 ∙ ap (λ u. u ++ f.1) f.3)) f.4
seq_in (one k) s w f = f
seq_in (a then b) s w f = f
seq_in (a or b) s w f = f
seq_in (many a) s w f = f

seq_out : (r s : Shape) (w : List ℕ) → Fits (seq r s) w → Fits (r then s) w
seq_out never s w f = absurd f
seq_out empty s w f = ([], w, refl, refl, f)
seq_out (one k) s w f = f
seq_out (a then b) s w f = f
seq_out (a or b) s w f = f
seq_out (many a) s w f = f

or_not_in : (r s : Shape) (w : List ℕ) → Fits r w ⊎ Fits s w → Fits (or_not r s) w
or_not_in r never w (inl f) = f
or_not_in r never w (inr f) = absurd f
or_not_in r empty w f = f
or_not_in r (one k) w f = f
or_not_in r (a then b) w f = f
or_not_in r (a or b) w f = f
or_not_in r (many a) w f = f

or_not_out : (r s : Shape) (w : List ℕ) → Fits (or_not r s) w → Fits r w ⊎ Fits s w
or_not_out r never w f = inl f
or_not_out r empty w f = f
or_not_out r (one k) w f = f
or_not_out r (a then b) w f = f
or_not_out r (a or b) w f = f
or_not_out r (many a) w f = f

alt_in : (r s : Shape) (w : List ℕ) → Fits r w ⊎ Fits s w → Fits (alt r s) w
alt_in never s w (inl f) = absurd f
alt_in never s w (inr f) = f
alt_in empty s w f = or_not_in empty s w f
alt_in (one k) s w f = or_not_in (one k) s w f
alt_in (a then b) s w f = or_not_in (a then b) s w f
alt_in (a or b) s w f = or_not_in (a or b) s w f
alt_in (many a) s w f = or_not_in (many a) s w f

alt_out : (r s : Shape) (w : List ℕ) → Fits (alt r s) w → Fits r w ⊎ Fits s w
alt_out never s w f = inr f
alt_out empty s w f = or_not_out empty s w f
alt_out (one k) s w f = or_not_out (one k) s w f
alt_out (a then b) s w f = or_not_out (a then b) s w f
alt_out (a or b) s w f = or_not_out (a or b) s w f
alt_out (many a) s w f = or_not_out (many a) s w f

-- the empty text

nil_left : (u v : List ℕ) → [] ≡ u ++ v → u ≡ []
nil_left [] v e = refl
nil_left (b ∷ u) v e = cc

nil_right : (u v : List ℕ) → [] ≡ u ++ v → v ≡ []
nil_right [] v e = sym e
nil_right (b ∷ u) v e = cc

pub may_end_in : (r : Shape) → Fits r [] → may_end r ≡ true
may_end_in never f = absurd f
may_end_in empty f = refl
may_end_in (one k) f = cc f.1
may_end_in (r then s) f =
    and_from (may_end r) (may_end s) (may_end_in r (subst (Fits r) (nil_left f.0 f.1 f.2) f.3))
    (may_end_in s (subst (Fits s) (nil_right f.0 f.1 f.2) f.4))
may_end_in (r or s) (inl f) = or_left (may_end r) (may_end s) (may_end_in r f)
may_end_in (r or s) (inr f) = or_right (may_end r) (may_end s) (may_end_in s f)
may_end_in (many r) f = refl

pub may_end_out : (r : Shape) → may_end r ≡ true → Fits r []
may_end_out never e = cc
may_end_out empty e = refl
may_end_out (one k) e = cc
may_end_out (r then s) e =
    let h = and_parts (may_end r) (may_end s) e in
    ([], [], refl, may_end_out r h.0, may_end_out s h.1)
may_end_out (r or s) e =
    elim (or_cases (may_end r) (may_end s) e) [ inl h ↦ inl (may_end_out r h) | inr h ↦ inr (may_end_out s h) ]
may_end_out (many r) e = ([], refl, tt)

-- a byte more

-- a text `b ∷ w` in two parts: the byte begins the first, or the first is empty
cut : (b : ℕ) (w u v : List ℕ) → b ∷ w ≡ u ++ v → ((u ≡ []) × (b ∷ w ≡ v)) ⊎ ((u' : List ℕ) × (u ≡ b ∷ u') × (w ≡ u' ++ v))
cut b w [] v e = inl (refl, e)
cut b w (c ∷ u) v e = inr (u, (cc), (cc))

-- the first part of some that is not empty
cut_many : (P : List ℕ → Type 0) (b : ℕ) (w : List ℕ) (us : List (List ℕ)) → b ∷ w ≡ together us → Each P us → (u : List ℕ) × (vs : List (List ℕ)) × (w ≡ u ++ together vs) × P (b ∷ u) × Each P vs
cut_many P b w [] e h = cc
cut_many P b w (u ∷ us) e h =
    elim (cut b w u (together us) e) [
      | inl k ↦ cut_many P b w us k.1 h.1
      | inr k ↦ (k.0, us, k.2, subst P k.1 h.0, h.1)
    ]

cond_in : (t : Bool) (s : Shape) (w : List ℕ) → t ≡ true → Fits s w → Fits (cond t s never) w
cond_in true s w e f = f
cond_in false s w e f = cc

cond_out : (t : Bool) (s : Shape) (w : List ℕ) → Fits (cond t s never) w → (t ≡ true) × Fits s w
cond_out true s w f = (refl, f)
cond_out false s w f = absurd f

pub after_in : (r : Shape) (b : ℕ) (w : List ℕ) → Fits r (b ∷ w) → Fits (after (kind_of b) r) w
after_in never b w f = absurd f
after_in empty b w f = cc
after_in (one k) b w f =
    let e : b ≡ f.0 = cc f.1 in
    let n : w ≡ [] = cc f.1 in
    cond_in (same (kind_of b) k) empty w (same_at (kind_of b) k (ap kind_of e ∙ f.2)) n
after_in (r then s) b w f =
    alt_in (seq (after (kind_of b) r) s) (cond (may_end r) (after (kind_of b) s) never) w
    (elim (cut b w f.0 f.1 f.2) [
      | inl k ↦ inr (cond_in (may_end r) (after (kind_of b) s) w (may_end_in r (subst (Fits r) k.0 f.3)) (after_in s b w (subst (Fits s) (sym k.1) f.4)))
      | inr k ↦ inl (seq_in (after (kind_of b) r) s w (k.0, f.1, k.2, after_in r b k.0 (subst (Fits r) k.1 f.3), f.4))
    ])
after_in (r or s) b w (inl f) = alt_in (after (kind_of b) r) (after (kind_of b) s) w (inl (after_in r b w f))
after_in (r or s) b w (inr f) = alt_in (after (kind_of b) r) (after (kind_of b) s) w (inr (after_in s b w f))
after_in (many r) b w f =
    let k = cut_many (Fits r) b w f.0 f.1 f.2 in
    seq_in (after (kind_of b) r) (many r) w (k.0, together k.1, k.2, after_in r b k.0 k.3, (k.1, refl, k.4))

pub after_out : (r : Shape) (b : ℕ) (w : List ℕ) → Fits (after (kind_of b) r) w → Fits r (b ∷ w)
after_out never b w f = absurd f
after_out empty b w f = absurd f
after_out (one k) b w f =
    let h = cond_out (same (kind_of b) k) empty w f in
    (b, ap (λ u. b ∷ u) h.1, same-sound (kind_of b) k h.0)
after_out (r then s) b w f =
    elim (alt_out (seq (after (kind_of b) r) s) (cond (may_end r) (after (kind_of b) s) never) w f) [
      | inl g ↦ (let k = seq_out (after (kind_of b) r) s w g in (b ∷ k.0, k.1, ap (λ u. b ∷ u) k.2, after_out r b k.0 k.3, k.4))
      | inr g ↦ (let k = cond_out (may_end r) (after (kind_of b) s) w g in ([], b ∷ w, refl, may_end_out r k.0, after_out s b w k.1))
    ]
after_out (r or s) b w f =
    elim (alt_out (after (kind_of b) r) (after (kind_of b) s) w f) [ inl g ↦ inl (after_out r b w g) | inr g ↦ inr (after_out s b w g) ]
after_out (many r) b w f =
    let k = seq_out (after (kind_of b) r) (many r) w f in
    ((b ∷ k.0) ∷ k.4.0, ap (λ u. b ∷ u) (k.2 ∙ ap (λ u. k.0 ++ u) k.4.1), (after_out r b k.0 k.3, k.4.2))

-- some text of the shape

abbrev pub has_word : Shape → Bool
has_word never = false
has_word empty = true
has_word (one k) = true
has_word (r then s) = has_word r && has_word s
has_word (r or s) = has_word r || has_word s
has_word (many r) = true

pub word_of : (r : Shape) → has_word r ≡ true → (w : List ℕ) × Fits r w
word_of never e = cc
word_of empty e = ([], refl)
word_of (one k) e = (sample k ∷ [], (sample k, refl, sample_is k))
word_of (r then s) e =
    let h = and_parts (has_word r) (has_word s) e in
    let a = word_of r h.0 in
    let b = word_of s h.1 in
    (a.0 ++ b.0, (a.0, b.0, refl, a.1, b.1))
word_of (r or s) e =
    elim (or_cases (has_word r) (has_word s) e) [
      | inl h ↦ (let a = word_of r h in (a.0, inl a.1))
      | inr h ↦ (let a = word_of s h in (a.0, inr a.1))
    ]
word_of (many r) e = ([], ([], refl, tt))

pub some_word : (s : Shape) → has_word s ≡ true → is_never s ≡ false
some_word never e = sym e
some_word empty e = refl
some_word (one k) e = refl
some_word (r then s) e = refl
some_word (r or s) e = refl
some_word (many r) e = refl

pub never-has : (w : List ℕ) → has never w ≡ false
never-has [] = refl
never-has (b ∷ w) = never-has w
