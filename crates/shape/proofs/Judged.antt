-- What the walk over a text gives is what its shape says: whether the text has it, and else its longest beginning that can be completed.
use Rattle.std.proofs.Common.{◌≡◌, ℕ, zero, suc, ◌+◌, ◌≤◌, Bool, true, false, cond, List, [], ◌∷◌, ◌++◌, length, take, Some, None, Option, MatchOption, sym, refl, subst, arith}
use Rattle.shape.specs.declared.states.State.{State}
use Rattle.shape.specs.Kinds.{kind_of}
use Rattle.shape.specs.Shape.{Shape, never, Fits, Completable, Misshapen}
use Rattle.shape.specs.Follow.{after, goes, has, is_never, may_end, misfit}
use Rattle.shape.specs.declared.Form.{Form}
use Rattle.shape.specs.Grammar.{shape_of}
use Rattle.shape.specs.States.{begin, next}
use Rattle.shape.proofs.Derive.{after_in, after_out, has_word, may_end_in, may_end_out, never-has, some_word, word_of}
use Rattle.shape.proofs.Table.{shape_at, shape_or, begin-right, next-right, goes_on}

abbrev pub Verdict : Shape → List ℕ → Option ℕ → Type 0
Verdict r w o = MatchOption o (Fits r w) (λ p. Misshapen r w p)

-- at the end of the text
at_end : (r : Shape) → has_word r ≡ true → Verdict r [] (misfit r [])
at_end r some =
    elim (may_end r) as (λ t. may_end r ≡ t → Verdict r [] (cond t None (Some 0))) [
      | true ↦ (λ e. may_end_out r e)
      | false ↦ (λ e. record {
        broken = λ f. cc (may_end_in r f, e);
        place = record { within = omega arith; can = word_of r some; longest = λ q k c. k };
      })
    ] refl

-- what may follow the byte b in a text of the shape r has the shape t
module _ (r t : Shape) (b : ℕ) (w : List ℕ) (led : t ≡ after (kind_of b) r) where
  down : (v : List ℕ) → Fits r (b ∷ v) → Fits t v
  down v f = subst (λ s. Fits s v) (sym led) (after_in r b v f)

  up : (v : List ℕ) → Fits t v → Fits r (b ∷ v)
  up v f = after_out r b v (subst (λ s. Fits s v) led f)

  -- nothing may
  barred : ((v : List ℕ) → Fits t v → ⊥) → has_word r ≡ true → Misshapen r (b ∷ w) 0
  barred none some = record {
    broken = λ f. none w (down w f);
    place = record {
      within = omega arith;
      can = word_of r some;
      longest = λ q. elim q as (λ q. q ≤ length (b ∷ w) → Completable r (take q (b ∷ w)) → q ≤ 0) [
        | zero ↦ (λ k c. omega arith)
        | suc q ↦ (λ k c. absurd (none (take q w ++ c.0) (down (take q w ++ c.0) c.1)))
      ];
    };
  }

  onward : (p : ℕ) → Misshapen t w p → Misshapen r (b ∷ w) (suc p)
  onward p m = record {
    broken = λ f. m.broken (down w f);
    place = record {
      within = omega (arith, m.place.within);
      can = (m.place.can.0, up (take p w ++ m.place.can.0) m.place.can.1);
      longest = λ q. elim q as (λ q. q ≤ length (b ∷ w) → Completable r (take q (b ∷ w)) → q ≤ suc p) [
        | zero ↦ (λ k c. omega arith)
        | suc q ↦ (λ k c. omega (arith, m.place.longest q (omega arith) (c.0, down (take q w ++ c.0) c.1)))
      ];
    };
  }

  behind : (x : Bool) → Verdict t w (cond x None (Some (goes t w))) → Verdict r (b ∷ w) (cond x None (Some (1 + goes t w)))
  behind true f = up w f
  behind false m = subst (Misshapen r (b ∷ w)) (omega arith) (onward (goes t w) m)

-- what is found, where t is the shape of what may follow the first byte
abbrev found : Shape → List ℕ → Option ℕ
found t w = cond (has t w) None (Some (cond (is_never t) 0 (1 + goes t w)))

pub judged : (s : State) (w : List ℕ) → Verdict (shape_at s) w (misfit (shape_at s) w)
judged s [] = at_end (shape_at s) (goes_on s)
judged s (b ∷ w) = subst (λ t. Verdict (shape_at s) (b ∷ w) (found t w)) (next-right s (kind_of b)) (step (λ t. judged t w) (next s (kind_of b)) (next-right s (kind_of b)))
  where
    step : ((t : State) → Verdict (shape_at t) w (misfit (shape_at t) w)) → (o : Option State) → shape_or o ≡ after (kind_of b) (shape_at s) → Verdict (shape_at s) (b ∷ w) (found (shape_or o) w)
    step later None led = subst (λ x. Verdict (shape_at s) (b ∷ w) (cond x None (Some 0))) (sym (never-has w)) (barred (shape_at s) never b w led (λ v f. f) (goes_on s))
    step later (Some t) led = subst (λ n. Verdict (shape_at s) (b ∷ w) (cond (has (shape_at t) w) None (Some (cond n 0 (1 + goes (shape_at t) w))))) (sym (some_word (shape_at t) (goes_on t))) (behind (shape_at s) (shape_at t) b w led (has (shape_at t) w) (later t))

pub told : (f : Form) (w : List ℕ) (o : Option ℕ) → o ≡ misfit (shape_of f) w → Verdict (shape_of f) w o
told f w o e = subst (Verdict (shape_of f) w) (sym e) (subst (λ r. Verdict r w (misfit r w)) (begin-right f) (judged (begin f) w))
