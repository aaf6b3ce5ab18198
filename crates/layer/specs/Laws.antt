-- Layers over lawful sources are lawful, and fair where those are.
use Rattle.std.specs.Prelude.{◌≡◌, ℕ, ◌+◌, ◌≤◌, true, ◌&&◌, ◌⊎◌, nat_le}
use Rattle.std.proofs.Common.{inl, inr, ⊎_elim, arith}
use Rattle.std.proofs.lemmas.Bool.{and_parts, or_cases, leb-true}
use Rattle.source.specs.Meaning.{Meaning, Lawful, Price, Fair}
use Rattle.layer.specs.Layers.{both, both_price, part}

both-parts : (M N : Meaning) (k a b : ℕ) → (both M N).has k a b ≡ true → (M.has k a b ≡ true) ⊎ ((N.has k a b ≡ true) × (b ≤ M.boxes))
both-parts M N k a b h =
    ⊎_elim inl
    (λ q. let p = and_parts (N.has k a b) (nat_le b M.boxes) q in inr (p.0, leb-true b M.boxes p.1))
    (or_cases (M.has k a b) (N.has k a b && nat_le b M.boxes) h)

pub both-lawful : (M N : Meaning) → Lawful M → Lawful N → Lawful (both M N)
both-lawful M N l l' = record {
  short = l.short;
  known = λ k a b h. ⊎_elim (l.known k a b) (λ p. l'.known k a b p.0) (both-parts M N k a b h);
  ordered = λ k a b h. ⊎_elim (l.ordered k a b) (λ p. l'.ordered k a b p.0) (both-parts M N k a b h);
  inside = λ k a b h. ⊎_elim (l.inside k a b) (λ p. p.1) (both-parts M N k a b h);
}

pub both_fair : (p q : Price) → Fair p → Fair q → Fair (both_price p q)
both_fair p q f g = record { some = omega (arith, f.some); look_bound = omega arith; opening_bound = omega arith }

pub part-parts : (M : Meaning) (u v k a b : ℕ) → (part M u v).has k a b ≡ true → (M.has k (a + u) (b + u) ≡ true) × (b + u ≤ v)
part-parts M u v k a b h = let p = and_parts (M.has k (a + u) (b + u)) (nat_le (b + u) v) h in (p.0, leb-true (b + u) v p.1)

pub part-lawful : (M : Meaning) (u v : ℕ) → v ≤ 20000 → Lawful M → Lawful (part M u v)
part-lawful M u v short l = record {
  short = omega arith;
  known = λ k a b h. l.known k (a + u) (b + u) (part-parts M u v k a b h).0;
  ordered = λ k a b h. let o = l.ordered k (a + u) (b + u) (part-parts M u v k a b h).0 in omega arith;
  inside = λ k a b h. let o = (part-parts M u v k a b h).1 in omega arith;
}
