-- How the list stands after its first turns, and that one turn more keeps it so.
use Rattle.std.proofs.Common.{◌≡◌, ℕ, ◌+◌, ◌<◌, ◌≤◌, List, [], ◌∷◌, ◌++◌, map, length, get_or, take, drop, set, Some, sym, refl, ap, ◌∙◌, subst, ap₂, arith, length-set}
use Rattle.std.proofs.lemmas.List.{get_or-drop, take_all, take_more, take_more_set, drop-drop, drop-set-lt, map_push}
use Rattle.source.specs.Meaning.{Priced, Lawful, plain}
use Rattle.sheet_model.specs.Sheet.{Sheet, Call, Reply, clean, answer, answers, after, bill_of}
use Rattle.theorem.specs.Whole.{Whole}
use Rattle.theorem.proofs.Whole.{whole-stands}
use Rattle.perform.specs.declared.values.Turn.{Turn}
use Rattle.perform.specs.Turns.{call_of, calls_in, handed, said, Replied}
use Rattle.perform.proofs.Proper.{proper_calls}

answers_push : (P : Priced) (s : Sheet) (cs : List Call) (c : Call) → answers P s (cs ++ c ∷ []) ≡ answers P s cs ++ (answer P (after P s cs) c).1 ∷ []
answers_push P s [] c = refl
answers_push P s (d ∷ cs) c = ap (λ rs. (answer P s d).1 ∷ rs) (answers_push P (answer P s d).0 cs c)

after_push : (P : Priced) (s : Sheet) (cs : List Call) (c : Call) → after P s (cs ++ c ∷ []) ≡ (answer P (after P s cs) c).0
after_push P s [] c = refl
after_push P s (d ∷ cs) c = after_push P (answer P s d).0 cs c

abbrev handed_in : List Turn → List Call
handed_in ts = map (λ t. handed t.call) ts

drop_on : (xs ys : List Turn) (i : ℕ) → drop i xs ≡ drop i ys → drop (i + 1) xs ≡ drop (i + 1) ys
drop_on xs ys i e = sym (drop-drop 1 i xs) ∙ ap (drop 1) e ∙ drop-drop 1 i ys

-- the first i of the turns `olds` are made, and `news` is the list with their replies; the sheet went from s to t
pub record Performed (P : Priced) (s t : Sheet) (olds news : List Turn) (i : ℕ) : Type 0 where
  pub long : length news ≡ length olds
  pub replied : Replied (take i news) (answers P s (calls_in (take i olds)))
  pub left : t ≡ after P s (calls_in (take i olds))
  pub rest : drop i news ≡ drop i olds
  pub kept : map (λ x. handed x.call) (take i news) ≡ map (λ x. handed x.call) (take i olds)

pub performed_none : (P : Priced) (s : Sheet) (ts : List Turn) → Performed P s s ts ts 0
performed_none P s ts = record { long = refl; replied = refl; left = refl; rest = refl; kept = refl }

pub performed_more : (P : Priced) (s t u : Sheet) (olds news : List Turn) (i : ℕ) (x y : Turn) (r : Reply) → Performed P s t olds news i → i < length olds → x ≡ get_or news i x → answer P t (call_of x.call) ≡ (u, r) → said y ≡ Some r → handed y.call ≡ handed x.call → Performed P s u olds (set news i y) (i + 1)
performed_more P s t u olds news i x y r v h is told said_so kept =
    let inside : i < length news = omega (arith, v.long) in
    let zero_more : i + 0 ≡ i = omega arith in
    let same : get_or news i x ≡ get_or olds i x =
    ap (λ k. get_or news k x) (sym zero_more) ∙ sym (get_or-drop i news 0 x) ∙ ap (λ l. get_or l 0 x) v.rest ∙ get_or-drop i olds 0 x ∙ ap (λ k. get_or olds k x) zero_more in
    let new : take (i + 1) (set news i y) ≡ take i news ++ y ∷ [] = take_more_set news i y inside in
    let old : take (i + 1) olds ≡ take i olds ++ x ∷ [] = take_more olds i x h ∙ ap (λ z. take i olds ++ z ∷ []) (sym (is ∙ same)) in
    let calls : calls_in (take (i + 1) olds) ≡ calls_in (take i olds) ++ call_of x.call ∷ [] = ap calls_in old ∙ map_push (λ q. call_of q.call) (take i olds) x in
    let now : answer P t (call_of x.call) ≡ answer P (after P s (calls_in (take i olds))) (call_of x.call) = ap (λ z. answer P z (call_of x.call)) v.left in
    let next : answers P s (calls_in (take (i + 1) olds)) ≡ answers P s (calls_in (take i olds)) ++ (answer P t (call_of x.call)).1 ∷ [] =
    ap (answers P s) calls ∙ answers_push P s (calls_in (take i olds)) (call_of x.call) ∙ ap (λ a. answers P s (calls_in (take i olds)) ++ a.1 ∷ []) (sym now) in
    let replied : said y ≡ Some (answer P t (call_of x.call)).1 = said_so ∙ ap (λ a. Some a.1) (sym told) in
    record {
      long = length-set news i y ∙ v.long;
      replied = ap (map said) new ∙ map_push said (take i news) y ∙ ap₂ (λ l r. l ++ r ∷ []) v.replied replied
          ∙ sym (map_push Some (answers P s (calls_in (take i olds))) (answer P t (call_of x.call)).1) ∙ ap (map Some) (sym next);
      left = ap (λ a. a.0) (sym told ∙ now) ∙ sym (after_push P s (calls_in (take i olds)) (call_of x.call)) ∙ ap (after P s) (sym calls);
      rest = drop-set-lt (i + 1) news i y (omega arith) ∙ drop_on news olds i v.rest;
      kept = ap handed_in new ∙ map_push (λ q. handed q.call) (take i news) y ∙ ap₂ (λ l c. l ++ c ∷ []) v.kept kept ∙ sym (ap handed_in old ∙ map_push (λ q. handed q.call) (take i olds) x);
    }

-- once the last turn is made, a list that began from a clean sheet tells the whole
pub performed_whole : (P : Priced) (s t : Sheet) (olds news : List Turn) (i : ℕ) → Lawful (plain P) → Performed P s t olds news i → length olds ≤ i → s ≡ clean → (rs : List Reply) × Replied news rs × Whole P (calls_in olds) rs (bill_of t)
performed_whole P s t olds news i lawful v h e =
    let cs = calls_in olds in
    let old = take_all i olds h in
    let new = take_all i news (omega (arith, v.long)) in
    let left : t ≡ after P clean cs = v.left ∙ ap₂ (λ x ts. after P x (calls_in ts)) e old in (
      answers P clean cs,
      ap (map said) (sym new) ∙ v.replied ∙ ap₂ (λ x ts. map Some (answers P x (calls_in ts))) e old,
      subst (λ b. Whole P cs (answers P clean cs) b) (sym (ap bill_of left)) (whole-stands P lawful cs (proper_calls olds)),
    )
