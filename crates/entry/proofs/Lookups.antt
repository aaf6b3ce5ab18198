-- A name looked up entry by entry.
use Rattle.std.proofs.Common.{◌≡◌, ℕ, ◌+◌, ◌<◌, ◌≤◌, Bool, true, false, cond, ◌||◌, List, [], ◌∷◌, length, get_or, drop, is_some, Some, None, Option, sym, refl, ap, ◌∙◌}
use Rattle.std.specs.List.{position_from}
use Rattle.std.specs.Str.{bytes_eq}
use Rattle.std.proofs.lemmas.List.{at_drop_more, at_drop_all}
use Rattle.entry.specs.Named.{number_in, taken}

module _ (name : List ℕ) (names : List (List ℕ)) (k : ℕ) where
  pub named_on : (t : Bool) → k < length names → t ≡ bytes_eq name (get_or names k []) → position_from (bytes_eq name) k (drop k names) ≡ number_in name names → cond t (Some k) (position_from (bytes_eq name) (k + 1) (drop (k + 1) names)) ≡ number_in name names
  named_on t h e so = ap (λ x. cond x (Some k) (position_from (bytes_eq name) (k + 1) (drop (k + 1) names))) e ∙ sym (at_drop_more (position_from (bytes_eq name) k) names k [] h) ∙ so

  pub named_end : length names ≤ k → position_from (bytes_eq name) k (drop k names) ≡ number_in name names → None ≡ number_in name names
  named_end h so = sym (at_drop_all (position_from (bytes_eq name) k) names k h) ∙ so

either : (t : Bool) (k : ℕ) (o : Option ℕ) (u : Bool) → is_some o ≡ u → is_some (cond t (Some k) o) ≡ (t || u)
either true k o u e = refl
either false k o u e = e

-- a name is taken if it has a number
pub numbered : (k : ℕ) (name : List ℕ) (names : List (List ℕ)) → is_some (position_from (bytes_eq name) k names) ≡ taken name names
numbered k name [] = refl
numbered k name (n ∷ ns) = either (bytes_eq name n) k (position_from (bytes_eq name) (k + 1) ns) (taken name ns) (numbered (k + 1) name ns)
