-- The test of two kinds tells whether they are the same.
use Rattle.std.proofs.Common.{◌≡◌, ℕ, true, cond, eqb, sym, refl, ap, ◌∙◌, eq-eqb, eqb-true}
use Rattle.shape.specs.declared.kinds.Kind.{Kind}
use Rattle.shape.specs.declared.kinds.Kind.TheVariants.{Space, Star, Dot, Open, Shut, Less, More, Numeral, Letter, Other}
use Rattle.shape.specs.Follow.{number, same}
use Rattle.shape.specs.Kinds.{kind_of}

pub same_at : (j k : Kind) → j ≡ k → same j k ≡ true
same_at j k e = eq-eqb (number j) (number k) (ap number e)

kind_at : ℕ → Kind
kind_at n =
    cond (eqb n 0) Space
    (cond (eqb n 1) Star
    (cond (eqb n 2) Dot
    (cond (eqb n 3) Open
    (cond (eqb n 4) Shut
    (cond (eqb n 5) Less
    (cond (eqb n 6) More
    (cond (eqb n 7) Numeral
    (cond (eqb n 8) Letter
    Other))))))))

back : (k : Kind) → kind_at (number k) ≡ k
unfolding kind_at
back Space = refl
back Star = refl
back Dot = refl
back Open = refl
back Shut = refl
back Less = refl
back More = refl
back Numeral = refl
back Letter = refl
back Other = refl

pub same-sound : (j k : Kind) → same j k ≡ true → j ≡ k
same-sound j k e = sym (back j) ∙ ap kind_at (eqb-true (number j) (number k) e) ∙ back k

-- what holds of each kind
pub each_kind : (P : Kind → Type 0) → P Space × P Star × P Dot × P Open × P Shut × P Less × P More × P Numeral × P Letter × P Other → (k : Kind) → P k
each_kind P h Space = h.0
each_kind P h Star = h.1
each_kind P h Dot = h.2
each_kind P h Open = h.3
each_kind P h Shut = h.4
each_kind P h Less = h.5
each_kind P h More = h.6
each_kind P h Numeral = h.7
each_kind P h Letter = h.8
each_kind P h Other = h.9

-- a byte of each kind
abbrev pub sample : Kind → ℕ
sample Space = 32
sample Star = 42
sample Dot = 46
sample Open = 91
sample Shut = 93
sample Less = 60
sample More = 62
sample Numeral = 48
sample Letter = 97
sample Other = 0

pub sample_is : (k : Kind) → kind_of (sample k) ≡ k
sample_is Space = refl
sample_is Star = refl
sample_is Dot = refl
sample_is Open = refl
sample_is Shut = refl
sample_is Less = refl
sample_is More = refl
sample_is Numeral = refl
sample_is Letter = refl
sample_is Other = refl
