-- A written net is read back name by name and range by range.
use Rattle.std.proofs.Common.{◌≡◌, ℕ, ◌+◌, ◌-◌, true, cond, eqb, List, [], ◌∷◌, ◌++◌, map, length, get_or, take, ℤ, Some, None, sym, refl, ap, ◌∙◌, append_assoc, arith, length-append}
use Rattle.std.proofs.lemmas.List.{get_or-append-add, take_at}
use Rattle.std.specs.List.{AllByRecursion}
use Rattle.entry.specs.Names.{is_name}
use Rattle.parts.specs.Parts.{parts}
use Rattle.parts.proofs.Cuts.{Lacks}
use Rattle.word.specs.Numbers.{number_of}
use Rattle.word.specs.declared.limits.Limits.TheVariants.{Shift}
use Rattle.net.specs.Tokens.{Tok, both, bounds_of, high_of, low_of, name, net_tokens, range, range_or, tokens}
use Rattle.writing.specs.Joined.{behind}
use Rattle.writing.specs.Nets.{LawfulLeg, Leg, high_part, leg_text, leg_tokens, low_part, net_text}
use Rattle.writing.specs.Numerals.{Keeps, word_of}
use Rattle.writing.proofs.Laws.{lacks}
use Rattle.writing.proofs.Lines.{name-lacks}
use Rattle.writing.proofs.Parting.{append-lacks, parted}
use Rattle.writing.proofs.Words.{back}

abbrev leg_parts : List Leg → List (List ℕ)
leg_parts [] = []
leg_parts (s ∷ ss) = low_part s ∷ high_part s ∷ s.name ∷ leg_parts ss

leg_opened : (s : Leg) (v : List ℕ) → leg_text s ++ v ≡ low_part s ++ (32 ∷ (high_part s ++ (32 ∷ (s.name ++ v))))
leg_opened s v =
    let lo = word_of s.low in
    let hi = word_of s.high in
    let n = s.name in
    ap (λ x. 60 ∷ x) (append_assoc lo (32 ∷ (hi ++ (62 ∷ 32 ∷ n))) v)
    ∙ ap (λ x. 60 ∷ (lo ++ (32 ∷ x))) (append_assoc hi (62 ∷ 32 ∷ n) v ∙ sym (append_assoc hi (62 ∷ []) (32 ∷ (n ++ v))))

legs_opened : (ss : List Leg) → behind 32 (map leg_text ss) ≡ behind 32 (leg_parts ss)
legs_opened [] = refl
legs_opened (s ∷ ss) =
    ap (λ x. 32 ∷ x) (leg_opened s (behind 32 (map leg_text ss)))
    ∙ ap (λ x. 32 ∷ (low_part s ++ (32 ∷ (high_part s ++ (32 ∷ (s.name ++ x)))))) (legs_opened ss)

legs_lack : (ss : List Leg) → AllByRecursion LawfulLeg ss → AllByRecursion (Lacks 32) (leg_parts ss)
legs_lack [] a = tt
legs_lack (s ∷ ss) a =
    let l = a.0 in
    let low = lacks 32 refl Shift s.low l.lows in
    let high = append-lacks 32 (word_of s.high) (62 ∷ []) (lacks 32 refl Shift s.high l.highs) (refl, tt) in
    ((refl, low), (high, (name-lacks 32 s.name refl l.named, legs_lack ss a.1)))

net-parts : (n : List ℕ) (ss : List Leg) → is_name n ≡ true → AllByRecursion LawfulLeg ss → parts 32 (net_text n ss) ≡ n ∷ leg_parts ss
net-parts n ss h a = ap (λ x. parts 32 (n ++ x)) (legs_opened ss) ∙ parted 32 n (leg_parts ss) (name-lacks 32 n refl h) (legs_lack ss a)

-- a part that does not begin with `<` is a name
low-none : (w : List ℕ) → Lacks 60 w → low_of w ≡ None
low-none [] h = refl
low-none (b ∷ w) h = ap (λ t. cond t (number_of Shift w) None) h.0

name_token : (at : ℕ) (w : List ℕ) (ps : List (List ℕ)) → Lacks 60 w → tokens at (w ∷ ps) ≡ name at w ∷ tokens (at + length w + 1) ps
name_token at w [] h = refl
name_token at w (q ∷ ps) h =
    ap (λ o. range_or (both o (high_of q)) (λ g. range at g ∷ tokens (at + length w + 1 + length q + 1) ps) (name at w ∷ tokens (at + length w + 1) (q ∷ ps))) (low-none w h)

high_is : (z : ℤ) → Keeps Shift z → high_of (word_of z ++ 62 ∷ []) ≡ Some z
high_is z k =
    let w = word_of z in
    let p = w ++ 62 ∷ [] in
    let less : length p - 1 ≡ length w = omega (arith, length-append w (62 ∷ [])) in
    let last : get_or p (length p - 1) 0 ≡ 62 = ap (λ n. get_or p n 0) (omega (arith, less)) ∙ get_or-append-add w (62 ∷ []) 0 0 in
    ap (λ b. cond (eqb b 62) (number_of Shift (take (length p - 1) p)) None) last
    ∙ ap (number_of Shift) (ap (λ n. take n p) less ∙ take_at w (62 ∷ []) (length w) refl)
    ∙ back Shift z k

bounds_are : (s : Leg) → LawfulLeg s → bounds_of (low_part s) (high_part s) ≡ Some (record { low = s.low; high = s.high })
bounds_are s l i = both (back Shift s.low l.lows i) (high_is s.high l.highs i)

legs_told : (at : ℕ) (ss : List Leg) → AllByRecursion LawfulLeg ss → tokens at (leg_parts ss) ≡ leg_tokens at ss
legs_told at [] a = refl
legs_told at (s ∷ ss) a =
    let g : Tok = range at (record { low = s.low; high = s.high }) in
    let on = at + length (low_part s) + 1 + length (high_part s) + 1 in
    let rest = s.name ∷ leg_parts ss in
    ap (λ o. range_or o (λ h. range at h ∷ tokens on rest) (name at (low_part s) ∷ tokens (at + length (low_part s) + 1) (high_part s ∷ rest))) (bounds_are s a.0)
    ∙ ap (λ ts. g ∷ ts) (name_token on s.name (leg_parts ss) (name-lacks 60 s.name refl a.0.named) ∙ ap (λ ts. name on s.name ∷ ts) (legs_told (on + length s.name + 1) ss a.1))

pub net_back : (n : List ℕ) (ss : List Leg) → is_name n ≡ true → AllByRecursion LawfulLeg ss → net_tokens (net_text n ss) ≡ name 0 n ∷ leg_tokens (0 + length n + 1) ss
net_back n ss h a =
    ap (tokens 0) (net-parts n ss h a) ∙ name_token 0 n (leg_parts ss) (name-lacks 60 n refl h) ∙ ap (λ ts. name 0 n ∷ ts) (legs_told (0 + length n + 1) ss a)
