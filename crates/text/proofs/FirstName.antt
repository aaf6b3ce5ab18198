-- A net that has its shape begins with a name.
use Rattle.std.proofs.Common.{◌≡◌, ℕ, ◌+◌, ◌<◌, Bool, true, false, cond, eqb, List, [], ◌∷◌, length, Some, None, Ok, Err, Option, Result, sym, refl, ap, ◌∙◌, subst, arith}
use Rattle.std.proofs.lemmas.Bool.{false≢true, ne_eqb}
use Rattle.entry.specs.Rules.{Link}
use Rattle.std.specs.List.{onto_first}
use Rattle.parts.specs.Parts.{parts}
use Rattle.shape.specs.Follow.{after, goes, has, misfit}
use Rattle.shape.specs.Grammar.{net}
use Rattle.shape.specs.Kinds.{kind_of}
use Rattle.shape.specs.Shape.{Shape, never}
use Rattle.shape.specs.declared.kinds.Kind.{Kind}
use Rattle.shape.specs.declared.kinds.Kind.TheVariants.{Letter}
use Rattle.shape.proofs.Same.{each_kind}
use Rattle.net.specs.Tokens.{Tok, both, high_of, low_of, name, net_tokens, range, range_or, tokens}
use Rattle.word.specs.Numbers.{number_of}
use Rattle.word.specs.declared.limits.Limits.TheVariants.{Shift}
use Rattle.entry.specs.Named.{number_in}
use Rattle.text.specs.Nets.{ahead, link_of, missing, step, steps_from, steps_in}

was : (s : Shape) (w : List ℕ) → misfit s w ≡ None → has s w ≡ true
was s w h = by (has s w) h
  where
    by : (t : Bool) → cond t None (Some (goes s w)) ≡ None → t ≡ true
    by true h = refl
    by false h = let z : ◌≡◌ {A = ℕ} 0 1 = cc in absurd (omega arith)

never-has : (w : List ℕ) → has never w ≡ false
never-has [] = refl
never-has (b ∷ w) = never-has w

dead : {X : Type 0} (w : List ℕ) → has never w ≡ true → X
dead w h = absurd (false≢true (sym (never-has w) ∙ h))

letter-first : (k : Kind) (w : List ℕ) → has (after k net) w ≡ true → k ≡ Letter
letter-first k =
    each_kind (λ j. (w : List ℕ) → has (after j net) w ≡ true → j ≡ Letter)
    (dead, dead, dead, dead, dead, dead, dead, dead, (λ w h. refl), dead) k

-- no letter is the byte
not_byte : (b c : ℕ) → (kind_of c ≡ Letter → ⊥) → kind_of b ≡ Letter → eqb b c ≡ false
not_byte b c other e = ne_eqb b c (λ h. other (subst (λ x. kind_of x ≡ Letter) h e))

Named : List Tok → Type 0
Named ts = (p : List ℕ) × (us : List Tok) × (ts ≡ name 0 p ∷ us)

low-none : (b : ℕ) (p : List ℕ) → eqb b 60 ≡ false → low_of (b ∷ p) ≡ None
low-none b p e = ap (λ t. cond t (number_of Shift p) None) e

first_part : (b : ℕ) (p : List ℕ) (ps : List (List ℕ)) → eqb b 60 ≡ false → Named (tokens 0 ((b ∷ p) ∷ ps))
unfolding Named
first_part b p [] e = (b ∷ p, [], refl)
first_part b p (q ∷ ps) e =
    (b ∷ p, tokens (0 + length (b ∷ p) + 1) (q ∷ ps), ap (λ o. range_or (both o (high_of q)) (λ g. range 0 g ∷ tokens (0 + length (b ∷ p) + 1 + length q + 1) ps) (name 0 (b ∷ p) ∷ tokens (0 + length (b ∷ p) + 1) (q ∷ ps))) (low-none b p e))

begun : (b : ℕ) (ps : List (List ℕ)) (t : Bool) → t ≡ false → eqb b 60 ≡ false → Named (tokens 0 (cond t ([] ∷ ps) (onto_first b ps)))
begun b [] false h e = first_part b [] [] e
begun b (p ∷ ps) false h e = first_part b p ps e
begun b [] true h e = absurd (false≢true (sym h))
begun b (p ∷ ps) true h e = absurd (false≢true (sym h))

begins : (t : List ℕ) → misfit net t ≡ None → Named (net_tokens t)
begins [] h = let z : ◌≡◌ {A = ℕ} 0 1 = cc in absurd (omega arith)
begins (b ∷ w) h =
    let k : kind_of b ≡ Letter = letter-first (kind_of b) w (was net (b ∷ w) h) in
    begun b (parts 32 w) (eqb b 32) (not_byte b 32 (λ e. let z : ◌≡◌ {A = ℕ} 0 1 = cc in omega arith) k) (not_byte b 60 (λ e. let z : ◌≡◌ {A = ℕ} 0 1 = cc in omega arith) k)

some-ahead : (l : Link) (r : Result (List Link) ℕ) (ls : List Link) → Ok ls ≡ ahead (l ∷ []) r → 0 < length ls
some-ahead l (Ok ms) ls e = let same : ls ≡ l ∷ ms = cc in omega (arith, ap length same)
some-ahead l (Err p) ls e = let z : ◌≡◌ {A = ℕ} 0 1 = cc in absurd (omega arith)

some-step : (o : Option ℕ) (p : ℕ) (r : Result (List Link) ℕ) (ls : List Link) → Ok ls ≡ step missing o p r → 0 < length ls
some-step None p r ls e = let z : ◌≡◌ {A = ℕ} 0 1 = cc in absurd (omega arith)
some-step (Some k) p r ls e = some-ahead (link_of missing k) r ls e

-- so it has at least one step
pub some-steps : (names : List (List ℕ)) (t : List ℕ) (ls : List Link) → misfit net t ≡ None → Ok ls ≡ steps_in names t → 0 < length ls
unfolding Named
some-steps names t ls h e =
    let b = begins t h in
    some-step (number_in b.0 names) 0 (steps_from names missing b.1) ls (e ∙ ap (steps_from names missing) b.2)
