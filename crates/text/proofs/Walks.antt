-- Codes and steps, one by one.
use Rattle.std.proofs.Common.{◌≡◌, ℕ, ◌+◌, ◌<◌, ◌≤◌, Bool, true, ◌&&◌, leb, ◌⊎◌, List, [], ◌∷◌, ◌++◌, map, length, Some, None, Ok, Err, Result, sym, refl, ap, ◌∙◌, inl, inr, append_assoc, arith}
use Rattle.std.proofs.lemmas.Bool.{and_from, and_parts, cases_lt, le-leb, lt-leb}
use Rattle.refusal.specs.Checks.{refuse}
use Rattle.std.specs.List.{list_all}
use Rattle.entry.specs.Rules.{Link, links_of}
use Rattle.entry.specs.declared.range.Range.{Range}
use Rattle.parts.specs.Parts.{Placed, parts, placed}
use Rattle.parts.proofs.Tallies.{length-parts, tally-bound}
use Rattle.word.specs.Numbers.{code_of}
use Rattle.text.specs.Taking.{codes_in}
use Rattle.net.specs.Tokens.{Tok, name, names_over}
use Rattle.net.specs.declared.Bounds.{Bounds}
use Rattle.text.specs.Held.{bounds_in}
use Rattle.entry.specs.Named.{number_in}
use Rattle.text.specs.Nets.{ahead, link_of, missing, step, steps_from}

-- the parts of a field with their places say the same codes

placed-codes : (at : ℕ) (ps : List (List ℕ)) → map (λ (p : Placed). code_of p.bytes) (placed at ps) ≡ map code_of ps
placed-codes at [] = refl
placed-codes at (p ∷ ps) = ap (λ cs. code_of p ∷ cs) (placed-codes (at + length p + 1) ps)

pub codes_placed : (w : List ℕ) → map (λ (p : Placed). code_of p.bytes) (placed 0 (parts 32 w)) ≡ codes_in w
codes_placed w = placed-codes 0 (parts 32 w)

length-placed : (at : ℕ) (ps : List (List ℕ)) → length (placed at ps) ≡ length ps
length-placed at [] = refl
length-placed at (p ∷ ps) = omega (arith, length-placed (at + length p + 1) ps)

pub placed_few : (w : List ℕ) → length (placed 0 (parts 32 w)) ≤ length w + 1
placed_few w = omega (arith, length-placed 0 (parts 32 w), length-parts 32 w, tally-bound 32 w)

-- one entry more behind what is held, of what is left

pub held_more : {X Y : Type 0} (f : X → Y) (held : List Y) (x : X) (y : Y) (xs : List X) → y ≡ f x → (held ++ y ∷ []) ++ map f xs ≡ held ++ map f (x ∷ xs)
held_more f held x y xs e = append_assoc held (y ∷ []) (map f xs) ∙ ap (λ z. held ++ z ∷ map f xs) e

pub links_push : (ms : List ℕ) (gs : List Range) (m : ℕ) (g : Range) → length ms ≡ length gs → links_of (ms ++ m ∷ []) (gs ++ g ∷ []) ≡ links_of ms gs ++ link_of (bounds_in g) m ∷ []
links_push [] [] m g h = refl
links_push [] (x ∷ gs) m g h = absurd (omega arith)
links_push (x ∷ ms) [] m g h = absurd (omega arith)
links_push (x ∷ ms) (y ∷ gs) m g h = ap (λ z. link_of (bounds_in y) x ∷ z) (links_push ms gs m g (omega arith))

pub every_push : {X : Type 0} (test : X → Bool) (xs : List X) (x : X) → list_all test xs ≡ true → test x ≡ true → list_all test (xs ++ x ∷ []) ≡ true
every_push test [] x h e = ap (λ t. t && true) e
every_push test (y ∷ xs) x h e =
    let p = and_parts (test y) (list_all test xs) h in
    and_from (test y) (list_all test (xs ++ x ∷ [])) p.0 (every_push test xs x p.1 e)

pub ahead_none : (r : Result (List Link) ℕ) → ahead [] r ≡ r
ahead_none (Ok c) = refl
ahead_none (Err p) = refl

pub ahead_ahead : (a b : List Link) (r : Result (List Link) ℕ) → ahead (a ++ b) r ≡ ahead a (ahead b r)
ahead_ahead a b (Ok c) = ap Ok (append_assoc a b c)
ahead_ahead a b (Err p) = refl

-- the steps of the tokens ts, behind those held
module _ (names : List (List ℕ)) (held : List Link) (g : Bounds) (ts : List Tok) where
  pub steps-name : (i k : ℕ) (w : List ℕ) (g' : Bounds) (more : List Link) (us : List Tok) → ts ≡ name i w ∷ us → Some k ≡ number_in w names → g' ≡ missing → more ≡ held ++ link_of g k ∷ [] → ahead more (steps_from names g' us) ≡ ahead held (steps_from names g ts)
  steps-name i k w g' more us e n f m =
      ap (λ x. ahead x (steps_from names g' us)) m ∙ ap (λ x. ahead (held ++ link_of g k ∷ []) (steps_from names x us)) f ∙ ahead_ahead held (link_of g k ∷ []) (steps_from names missing us) ∙ ap (λ x. ahead held (step g x i (steps_from names missing us))) n ∙ sym (ap (λ x. ahead held (steps_from names g x)) e)

-- a name among at most 12
pub under : (n i : ℕ) (w : List ℕ) (ts us : List Tok) → ts ≡ name i w ∷ us → names_over n ts ≡ None → (n < 12) × (names_over (n + 1) us ≡ None)
under n i w ts us e h = by (cases_lt n 12) (sym (ap (names_over n) e) ∙ h)
  where
    by : (n < 12) ⊎ (12 ≤ n) → refuse (leb 12 n) i (names_over (n + 1) us) ≡ None → (n < 12) × (names_over (n + 1) us ≡ None)
    by (inl l) f = (l, sym (ap (λ t. refuse t i (names_over (n + 1) us)) (lt-leb 12 n l)) ∙ f)
    by (inr l) f = let z : ◌≡◌ {A = ℕ} 0 1 = cc (sym (ap (λ t. refuse t i (names_over (n + 1) us)) (le-leb 12 n l)) ∙ f) in absurd (omega arith)

pub links-length : (ms : List ℕ) (gs : List Range) → length (links_of ms gs) ≤ length ms
links-length [] gs = omega arith
links-length (m ∷ ms) [] = omega arith
links-length (m ∷ ms) (g ∷ gs) = omega (arith, links-length ms gs)
