-- A mark source is lawful and its prices are fair: what its traits owe.
use Rattle.std.specs.Prelude.{◌≡◌, ℕ, ◌+◌, Bool, true, false, not, ◌&&◌, List, [], ◌∷◌, is_some, Some, None, Option, ◌==◌, nat_le, nat_lt, refl}
use Rattle.std.proofs.Common.{subst, sym, ⊎_elim, arith}
use borrow.Author.Tests.{clash, eqb-true, leb-true, ltb-false}
use Rattle.std.proofs.lemmas.Bool.{and_parts, not-false, or_cases}
use Rattle.refusal.specs.Checks.{refuse}
use Rattle.entry.specs.declared.mark.Mark.{Mark}
use Rattle.source.specs.Meaning.{Fair, Lawful}
use Rattle.mark.specs.declared.fault.MarkFault.TheVariants.{TooLong, Entry}
use Rattle.mark.specs.Faults.{fault_from, fits, follows, mark_fault}
use Rattle.mark.specs.Marks.{LawfulMark, any_mark, is_mark, mark_meaning, mark_price}

-- where checks come to no refusal, the first lets through, and so do those after it
let_through : {E : Type 0} (t : Bool) (e : E) (rest : Option E) → is_some (refuse t e rest) ≡ false → (t ≡ false) × (is_some rest ≡ false)
let_through true e rest h = absurd (clash (sym h))
let_through false e rest h = (refl, h)

pub fits-lawful : (n : ℕ) (p : Option Mark) (m : Mark) → fits n p m ≡ true → LawfulMark n m
fits-lawful n p m h =
    let f = and_parts (follows p m) (nat_le m.motif 15 && (nat_le m.start m.end && nat_le m.end n)) h in
    let g = and_parts (nat_le m.motif 15) (nat_le m.start m.end && nat_le m.end n) f.1 in
    let e = and_parts (nat_le m.start m.end) (nat_le m.end n) g.1 in
    record { known = leb-true m.motif 15 g.0; ordered = leb-true m.start m.end e.0; inside = leb-true m.end n e.1 }

is_mark_lem : (m : Mark) (k a b : ℕ) → is_mark m k a b ≡ true → m ≡ record { motif = k; start = a; end = b }
is_mark_lem m k a b h =
    let f = and_parts (m.motif == k) (m.start == a && m.end == b) h in
    let g = and_parts (m.start == a) (m.end == b) f.1 in
    λ i. record { motif = eqb-true m.motif k f.0 i; start = eqb-true m.start a g.0 i; end = eqb-true m.end b g.1 i }

any-lawful : (n : ℕ) (p : Option Mark) (e : ℕ) (ms : List Mark) → is_some (fault_from n p e ms) ≡ false → (k a b : ℕ) → any_mark ms k a b ≡ true → LawfulMark n (record { motif = k; start = a; end = b })
any-lawful n p e [] none k a b h = absurd (clash h)
any-lawful n p e (m ∷ ms) none k a b h =
    let t = let_through (not (fits n p m)) (Entry e) (fault_from n (Some m) (e + 1) ms) none in
    ⊎_elim
    (λ here. subst (LawfulMark n) (is_mark_lem m k a b here) (fits-lawful n p m (not-false (fits n p m) t.0)))
    (any-lawful n (Some m) (e + 1) ms t.1 k a b)
    (or_cases (is_mark m k a b) (any_mark ms k a b) h)

pub mark-lawful : (n : ℕ) (ms : List Mark) → is_some (mark_fault n ms) ≡ false → Lawful (mark_meaning n ms)
mark-lawful n ms none =
    let t = let_through (nat_lt 20000 n) TooLong (fault_from n None 0 ms) none in
    record {
      short = ltb-false 20000 n t.0;
      known = λ k a b h. (any-lawful n None 0 ms t.1 k a b h).known;
      ordered = λ k a b h. (any-lawful n None 0 ms t.1 k a b h).ordered;
      inside = λ k a b h. (any-lawful n None 0 ms t.1 k a b h).inside;
    }

pub mark_fair : Fair mark_price
mark_fair = record { some = omega arith; look_bound = omega arith; opening_bound = omega arith }
