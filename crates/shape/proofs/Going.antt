-- The place that a walk over the states finds is the one that the shapes give.
use Rattle.std.proofs.Common.{◌≡◌, ℕ, ◌+◌, ◌<◌, Bool, true, false, cond, not, List, length, get_or, drop, Some, None, sym, refl, ap, ◌∙◌, arith}
use Rattle.std.specs.Bool.{then_some}
use Rattle.std.proofs.lemmas.List.{at_drop_more, at_drop_all}
use Rattle.shape.specs.declared.states.State.{State}
use Rattle.shape.specs.declared.Form.{Form}
use Rattle.shape.specs.Grammar.{shape_of}
use Rattle.shape.specs.Kinds.{kind_of}
use Rattle.shape.specs.Shape.{Shape, never}
use Rattle.shape.specs.Follow.{after, has, goes, is_never, misfit}
use Rattle.shape.specs.States.{begin, final, next}
use Rattle.shape.proofs.Derive.{never-has, some_word}
use Rattle.shape.proofs.Table.{shape_at, shape_or, begin-right, next-right, final-right, goes_on}

-- what is left of the text, in this state, gives the answer for the whole
pub record Going (r : Shape) (w : List ℕ) (i : ℕ) (s : State) : Type 0 where
  pub has : has (shape_at s) (drop i w) ≡ has r w
  pub goes : i + goes (shape_at s) (drop i w) ≡ goes r w

pub going_none : (f : Form) (s : State) (w : List ℕ) → s ≡ begin f → Going (shape_of f) w 0 s
going_none f s w e =
    let same : shape_at s ≡ shape_of f = ap shape_at e ∙ begin-right f in
    record { has = ap (λ r. has r w) same; goes = omega (arith, ap (λ r. goes r w) same) }

-- the shapes after a byte, by the test of the first: 0 or one more
stepped : (t : Shape) (w : List ℕ) → is_never t ≡ false → cond (is_never t) 0 (1 + goes t w) ≡ 1 + goes t w
stepped t w e = ap (λ b. cond b 0 (1 + goes t w)) e

pub going_more : (r : Shape) (w : List ℕ) (i : ℕ) (s t : State) → i < length w → Going r w i s → Some t ≡ next s (kind_of (get_or w i 0)) → Going r w (i + 1) t
going_more r w i s t h g e =
    let b = get_or w i 0 in
    let led : shape_at t ≡ after (kind_of b) (shape_at s) = ap shape_or e ∙ next-right s (kind_of b) in
    let step : goes (shape_at s) (drop i w) ≡ 1 + goes (shape_at t) (drop (i + 1) w) = at_drop_more (goes (shape_at s)) w i 0 h ∙ ap (λ x. cond (is_never x) 0 (1 + goes x (drop (i + 1) w))) (sym led) ∙ stepped (shape_at t) (drop (i + 1) w) (some_word (shape_at t) (goes_on t)) in
    record {
      has = ap (λ x. has x (drop (i + 1) w)) led ∙ sym (at_drop_more (has (shape_at s)) w i 0 h) ∙ g.has;
      goes = omega (arith, step, g.goes);
    }

pub going_stuck : (r : Shape) (w : List ℕ) (i : ℕ) (s : State) → i < length w → Going r w i s → None ≡ next s (kind_of (get_or w i 0)) → Some i ≡ misfit r w
going_stuck r w i s h g e =
    let b = get_or w i 0 in
    let led : never ≡ after (kind_of b) (shape_at s) = ap shape_or e ∙ next-right s (kind_of b) in
    let none : goes (shape_at s) (drop i w) ≡ 0 = at_drop_more (goes (shape_at s)) w i 0 h ∙ ap (λ x. cond (is_never x) 0 (1 + goes x (drop (i + 1) w))) (sym led) in
    let lacks : has r w ≡ false = sym g.has ∙ at_drop_more (has (shape_at s)) w i 0 h ∙ ap (λ x. has x (drop (i + 1) w)) (sym led) ∙ never-has (drop (i + 1) w) in
    let place : i ≡ goes r w = omega (arith, none, g.goes) in
    ap Some place ∙ sym (ap (λ t. cond t None (Some (goes r w))) lacks)

-- whether the text may end is told by the last state
ending : (t : Bool) (n : ℕ) → then_some (not t) n ≡ cond t None (Some n)
ending true n = refl
ending false n = refl

pub going_all : (r : Shape) (w : List ℕ) (i : ℕ) (s : State) (t : Bool) → i ≡ length w → Going r w i s → t ≡ final s → then_some (not t) (length w) ≡ misfit r w
going_all r w i s t h g e =
    let ends : t ≡ has r w = e ∙ final-right s ∙ sym (at_drop_all (has (shape_at s)) w i (omega arith)) ∙ g.has in
    let place : length w ≡ goes r w = omega (arith, at_drop_all (goes (shape_at s)) w i (omega arith), g.goes) in
    ending t (length w) ∙ ap (λ x. cond x None (Some (length w))) ends ∙ ap (λ x. cond (has r w) None (Some x)) place
