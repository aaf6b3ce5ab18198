-- Where a search in the order of keys ends, the first item stands, and it answers the question. Assumes nothing.
use Rattle.std.proofs.Common.{◌≡◌, ◌==◌, ℕ, zero, suc, ◌<◌, ◌≤◌, Bool, true, false, ◌&&◌, List, [], ◌∷◌, length, get_or, Some, None, Option, Less, Equal, Greater, sym, refl, ◌∙◌, subst, ⊎_elim, Bor, arith}
use Rattle.std.specs.Bool.{then_some}
use Rattle.std.specs.Option.{option_copied}
use Rattle.std.specs.Slice.{IsItemAt}
use Rattle.std.specs.List.{All, HoldsAt, list_any, slice_get}
use Rattle.std.specs.List.Sorted.{IsPartitionPoint, IsSortedByKey}
use Rattle.std.specs.Cmp.{IsTotalOrder, nat_cmp_total, on_total, then_total}
use Rattle.std.proofs.lemmas.List.Elements.{All-head, All-tail}
use Rattle.std.proofs.lemmas.List.Sorted.{ranks_by, sorted_far}
use Rattle.std.proofs.lemmas.Option.{get_or_from_slice_get, slice_get_cases, slice_get_past, slice_get_read}
use Rattle.std.proofs.lemmas.Bool.{and_from, and_parts, cases_Bool, cases_lt, eq-eqb, eqb-true, or_cases, true≢false}
use Rattle.std.proofs.lemmas.Bool.Decides.{nat_tests}
use Rattle.mark.specs.declared.key.Key.{Key}
use Rattle.mark.specs.Keys.{First, before, is_key, rank_key}
use Rattle.source.specs.Meaning.{Least}

pub key_order : IsTotalOrder rank_key
key_order = then_total (on_total (λ (x : Key). x.motif) nat_cmp_total) (then_total (on_total (λ (x : Key). x.known) nat_cmp_total) (on_total (λ (x : Key). x.wanted) nat_cmp_total))

-- what `get` answers, copied
pub copied_is : {T : Type 0} → (r : Option (Bor T)) (xs : List T) (i : ℕ) → IsItemAt xs i r → option_copied r ≡ slice_get xs i
copied_is None xs i at = sym (slice_get_past xs i at.3)
copied_is (Some x) xs i at = sym (slice_get_read xs (length xs) i x.now refl at.3.0 (at.3.1 x.now))

equal_not_before : (x t : Key) → rank_key x t ≡ Equal → before x t ≡ false
equal_not_before x t e = grind (arith, nat_tests)

-- what does not come before t does not come before an equal of t
not_before_equal : (x t y : Key) → rank_key x t ≡ Equal → before y t ≡ false → before y x ≡ false
not_before_equal x t y e f = grind (arith, nat_tests)

module _ {T : Type 0} (key : T → Key) (xs : List T) (t : Key) where
  pub found : (i : ℕ) → i < length xs → HoldsAt (λ y. rank_key (key y) t ≡ Equal) xs i → First key xs t (slice_get xs i)
  found i h equal =
      ⊎_elim
      (λ here.
      let x = here.0 in
      let e : rank_key (key x) t ≡ Equal = subst (λ y. rank_key (key y) t ≡ Equal) here.3 (equal x) in
      subst (First key xs t) (sym here.2) ((i, h, here.3), equal_not_before (key x) t e, λ j d _ after. not_before_equal (key x) t (key (get_or xs j d)) e after))
      (λ past. absurd (let p = past.0 in omega arith))
      (slice_get_cases xs i).1

  pub parted : (i : ℕ) → IsSortedByKey key rank_key xs → IsPartitionPoint (λ y. rank_key (key y) t ≡ Less) (λ y. rank_key (key y) t ≡ Greater) xs i → First key xs t (slice_get xs i)
  parted i sorted point =
      ⊎_elim
      (λ here.
      let x = here.0 in
      let after : rank_key (key x) t ≡ Greater = subst (λ y. rank_key (key y) t ≡ Greater) here.3 (point.1 i x (omega arith) here.1) in
      subst (First key xs t) (sym here.2) (
        (i, here.1, here.3),
        rw after refl,
        λ j d h late.
            ⊎_elim
            (λ low. absurd (true≢false (rw (point.0 j d (omega arith) low) at late)))
            (λ high. subst (λ y. before (key (get_or xs j d)) (key y) ≡ false) (get_or_from_slice_get xs i x d here.2) (sorted_far (λ y z. before (key y) (key z)) (ranks_by key_order key) xs sorted i j d high h))
            (cases_lt j i),
      ))
      (λ past. subst (First key xs t) (sym past.1) (λ j d h. rw (point.0 j d (omega arith) (let p = past.0 in omega arith)) refl))
      (slice_get_cases xs i).1

asked_from : (t : Key) (w : ℕ) → t.wanted ≤ w → before (record { motif = t.motif; known = t.known; wanted = w }) t ≡ false
asked_from t w least = grind (arith, nat_tests)

-- a key between the asked one and one that answers it has their motif and known, and wants no more
between : (t x : Key) (w : ℕ) → before x t ≡ false → before (record { motif = t.motif; known = t.known; wanted = w }) x ≡ false → (x.motif ≡ t.motif) × (x.known ≡ t.known) × (x.wanted ≤ w)
between t x w after late = (grind (arith, nat_tests), grind (arith, nat_tests), grind (arith, nat_tests))

wanted_after : (t x : Key) → before x t ≡ false → x.motif ≡ t.motif → x.known ≡ t.known → t.wanted ≤ x.wanted
wanted_after t x after p q = grind (arith, nat_tests)

key_is : (x : Key) (k n w : ℕ) → is_key x k n w ≡ true → x ≡ record { motif = k; known = n; wanted = w }
key_is x k n w h =
    let f = and_parts (x.motif == k) (x.known == n && x.wanted == w) h in
    let g = and_parts (x.known == n) (x.wanted == w) f.1 in
    λ i. record { motif = eqb-true x.motif k f.0 i; known = eqb-true x.known n g.0 i; wanted = eqb-true x.wanted w g.1 i }

is_itself : (x : Key) → is_key x x.motif x.known x.wanted ≡ true
is_itself x = grind (arith, nat_tests)

module _ {T : Type 0} (key : T → Key) where
  -- whether an item's key is (k, n, w)
  abbrev Has : List T → ℕ → ℕ → ℕ → Bool
  Has xs k n w = list_any (λ y. is_key (key y) k n w) xs

  has_here : (xs : List T) (i : ℕ) (x : T) → i < length xs → get_or xs i x ≡ x → Has xs (key x).motif (key x).known (key x).wanted ≡ true
  has_here [] i x h e = absurd (omega arith)
  has_here (y ∷ ys) zero x h e = rw (e, is_itself (key x)) refl
  has_here (y ∷ ys) (suc i) x h e = let rest = has_here ys i x (omega arith) e in grind (arith, nat_tests)

  -- what holds of each key holds of one that an item has
  all_have : (P : Key → Type 0) (xs : List T) (k n w : ℕ) → All (λ y. P (key y)) xs → Has xs k n w ≡ true → P (record { motif = k; known = n; wanted = w })
  all_have P [] k n w all has = absurd (true≢false (sym has))
  all_have P (y ∷ ys) k n w all has =
      ⊎_elim
      (λ here. subst P (key_is (key y) k n w here) (All-head (λ z. P (key z)) y ys all))
      (λ there. all_have P ys k n w (All-tail (λ z. P (key z)) y ys all) there)
      (or_cases (is_key (key y) k n w) (Has ys k n w) has)

  module _ (xs : List T) (t : Key) where
    abbrev Answers : Option ℕ → Type 0
    Answers r = Least (λ w. Has xs t.motif t.known w) t.wanted r

    pub none_left : First key xs t None → Answers None
    none_left early w least has = true≢false (sym (all_have (λ y. before y t ≡ true) xs t.motif t.known w early has) ∙ asked_from t w least)

    -- the first item answers where it has the asked motif and known, and otherwise none does
    pub first_left : (x : T) → First key xs t (Some x) → Answers (then_some ((key x).motif == t.motif && (key x).known == t.known) (key x).wanted)
    first_left x first =
        let here : Has xs (key x).motif (key x).known (key x).wanted ≡ true = has_here xs first.0.0 x first.0.1 first.0.2 in
        let nearest : (w : ℕ) → t.wanted ≤ w → Has xs t.motif t.known w ≡ true → ((key x).motif ≡ t.motif) × ((key x).known ≡ t.known) × ((key x).wanted ≤ w) =
        λ w least has. between t (key x) w first.1 (all_have (λ y. before y t ≡ false → before y (key x) ≡ false) xs t.motif t.known w first.2 has (asked_from t w least)) in
        ⊎_elim
        (λ same.
        let p = and_parts ((key x).motif == t.motif) ((key x).known == t.known) same in
        let m = eqb-true (key x).motif t.motif p.0 in
        let k = eqb-true (key x).known t.known p.1 in
        subst (λ b. Answers (then_some b (key x).wanted)) (sym same) (wanted_after t (key x) first.1 m k, (λ i. Has xs (sym m i) (sym k i) (key x).wanted) ∙ here, λ w least less has. omega (arith, less, (nearest w least has).2)))
        (λ other.
        subst (λ b. Answers (then_some b (key x).wanted)) (sym other)
        (λ w least has.
        let n = nearest w least has in
        true≢false (sym (and_from ((key x).motif == t.motif) ((key x).known == t.known) (eq-eqb (key x).motif t.motif n.0) (eq-eqb (key x).known t.known n.1)) ∙ other)))
        (cases_Bool ((key x).motif == t.motif && (key x).known == t.known))

-- the least of a test is the least of one that answers the same
pub least_alike : (f g : ℕ → Bool) (least : ℕ) (r : Option ℕ) → ((x : ℕ) → f x ≡ g x) → Least f least r → Least g least r
least_alike f g least r same = subst (λ (test : ℕ → Bool). Least test least r) (λ i x. same x i)
