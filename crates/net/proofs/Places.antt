-- No token begins behind the end of its field.
use Rattle.std.proofs.Common.{ℕ, ◌≤◌, List, [], ◌∷◌, Some, None, Option}
use Rattle.std.specs.List.{AllByRecursion}
use Rattle.parts.specs.Parts.{Placed}
use Rattle.net.specs.Tokens.{Tok, bounds_of, name, place_of, range, range_or, tokens_of}
use Rattle.net.specs.declared.Bounds.{Bounds}

either : (n : ℕ) (o : Option Bounds) (f : Bounds → List Tok) (ts : List Tok) → ((g : Bounds) → AllByRecursion (λ t. place_of t ≤ n) (f g)) → AllByRecursion (λ t. place_of t ≤ n) ts → AllByRecursion (λ t. place_of t ≤ n) (range_or o f ts)
either n None f ts h k = k
either n (Some g) f ts h k = h g

pub told_within : (n : ℕ) (ps : List Placed) → AllByRecursion (λ p. p.at ≤ n) ps → AllByRecursion (λ t. place_of t ≤ n) (tokens_of ps)
told_within n [] a = tt
told_within n (p ∷ []) a = (a.0, tt)
told_within n (p ∷ q ∷ ps) a =
    either n (bounds_of p.bytes q.bytes) (λ g. range p.at g ∷ tokens_of ps) (name p.at p.bytes ∷ tokens_of (q ∷ ps)) (λ g. (a.0, told_within n ps a.1.1)) (a.0, told_within n (q ∷ ps) a.1)
