-- Joined texts, parted at the bytes between them.
use Rattle.std.proofs.Common.{◌≡◌, ℕ, false, eqb, List, [], ◌∷◌, ◌++◌, length, ap, ◌∙◌, arith}
use Rattle.std.proofs.lemmas.List.{append-nil}
use Rattle.std.specs.List.{AllByRecursion}
use Rattle.parts.specs.Parts.{parts, tally}
use Rattle.parts.proofs.Cuts.{Lacks, parts_first, parts_last}
use Rattle.parts.proofs.Tallies.{length-parts}
use Rattle.writing.specs.Joined.{behind}

module _ (b : ℕ) where
  pub parted : (w : List ℕ) (ws : List (List ℕ)) → Lacks b w → AllByRecursion (Lacks b) ws → parts b (w ++ behind b ws) ≡ w ∷ ws
  parted w [] h a = ap (parts b) (append-nil w) ∙ parts_last b w h
  parted w (v ∷ vs) h a = parts_first b w (v ++ behind b vs) h ∙ ap (λ x. w ∷ x) (parted v vs a.0 a.1)

  pub joined-tally : (w : List ℕ) (ws : List (List ℕ)) → Lacks b w → AllByRecursion (Lacks b) ws → tally b (w ++ behind b ws) ≡ length ws
  joined-tally w ws h a = omega (arith, length-parts b (w ++ behind b ws), ap length (parted w ws h a))

pub append-lacks : (c : ℕ) (u v : List ℕ) → Lacks c u → Lacks c v → Lacks c (u ++ v)
append-lacks c [] v h k = k
append-lacks c (x ∷ u) v h k = (h.0, append-lacks c u v h.1 k)

-- a byte that stands in none of them, and is not the one between them
module _ (c b : ℕ) (o : eqb b c ≡ false) where
  behind-lacks : (ws : List (List ℕ)) → AllByRecursion (Lacks c) ws → Lacks c (behind b ws)
  behind-lacks [] a = tt
  behind-lacks (w ∷ ws) a = (o, append-lacks c w (behind b ws) a.0 (behind-lacks ws a.1))

  pub joined-lacks : (w : List ℕ) (ws : List (List ℕ)) → Lacks c w → AllByRecursion (Lacks c) ws → Lacks c (w ++ behind b ws)
  joined-lacks w ws h a = append-lacks c w (behind b ws) h (behind-lacks ws a)
