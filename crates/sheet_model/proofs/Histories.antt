-- What a history tells, from what the account of the same calls and replies tells: its bill is the account's, once finished.
use Rattle.std.proofs.Common.{◌≡◌, ℕ, zero, suc, ◌+◌, Bool, true, false, List, [], ◌∷◌, ◌++◌, length, Some, None, Option, sym, refl, ap, ◌∙◌, subst, ap₂}
use Rattle.std.proofs.lemmas.Bool.{false_from_ne_true}
use Rattle.walk.specs.Lists.{In, Apart, Lists}
use Rattle.entry.specs.Rules.{Net}
use Rattle.source.specs.Meaning.{Priced, Lawful, plain}
use Rattle.walk.specs.Places.{Places}
use Rattle.walk.specs.Walk.{Order, Event, looked, found}
use Rattle.refusal.specs.declared.Refusal.{Refusal}
use Rattle.sheet_model.specs.Strip.{read_find}
use Rattle.sheet_model.specs.Sheet.{Laid, Sheet, clean, laid, Call, lay, look, take, wipe, Reply, Refused, Done, Found, Finished, Paused, Took, Returned, rule_numbered, look_on, look_fault, look_if, answer, answers}
use Rattle.sheet_model.specs.History.{Task, History, nothing, note_rule, note_lay, note_look, note_find, note_take, note, noted, Tells, CallsTold, ProperCalls}
use Rattle.sheet_model.specs.Accounts.{Account, no_entries, enter_rule, enter_lay, enter_look, enter_find, enter_take, enter, entered, TellsAll}
use Rattle.sheet_model.proofs.Sheets.{Keeps, keeps_answer, calls_accounted}

abbrev told : Bool → ℕ → Option ℕ
told true b = Some b
told false b = None

told_out : (f : Bool) (a b : ℕ) → told f a ≡ Some b → (f ≡ true) × (a ≡ b)
told_out true a b e = (refl, cc)
told_out false a b e = cc

-- a history and an account of the same calls and replies
record Same (h : History) (a : Account) : Type 0 where
  task : h.task ≡ a.task
  taken : h.taken ≡ a.taken
  bill : h.bill ≡ told a.finished a.bill

same_rule : (h : History) (a : Account) (o : Order) (q : Option Net) → Same h a → Same (note_rule h o q) (enter_rule a o q)
same_rule h a o None s = s
same_rule h a o (Some r) s = record { task = refl; taken = refl; bill = refl }

same_lay : (h : History) (a : Account) (o : Order) (q : Option Net) (r : Reply) → Same h a → Same (note_lay h o q r) (enter_lay a o q r)
same_lay h a o q (Refused x) s = s
same_lay h a o q Done s = same_rule h a o q s
same_lay h a o q (Found n b) s = s
same_lay h a o q (Finished n b) s = s
same_lay h a o q (Paused n b) s = s
same_lay h a o q (Took strip) s = s
same_lay h a o q (Returned x strip) s = s

same_find : (h : History) (a : Account) (t u : Option Task) (strip : List ℕ) → t ≡ u → Same h a → Same (note_find h t strip) (enter_find a u strip)
same_find h a None None strip e s = s
same_find h a None (Some u) strip e s = cc
same_find h a (Some t) None strip e s = cc
same_find h a (Some t) (Some u) strip e s =
    let q : t ≡ u = cc in
    record { task = s.task; taken = ap₂ (λ ps x. ps ++ read_find (length x.rule.rest) strip ∷ []) s.taken q; bill = s.bill }

same_take : (h : History) (a : Account) (r : Reply) → Same h a → Same (note_take h r) (enter_take a r)
same_take h a (Refused x) s = s
same_take h a Done s = s
same_take h a (Found n b) s = s
same_take h a (Finished n b) s = s
same_take h a (Paused n b) s = s
same_take h a (Took strip) s = same_find h a h.task a.task strip s.task s
same_take h a (Returned x strip) s = s

-- before the walk is finished no bill is told
unfinished : (h : History) (a : Account) (b : ℕ) → a.finished ≡ false → Same h a → h.bill ≡ told a.finished b
unfinished h a b e s = s.bill ∙ ap (λ f. told f a.bill) e ∙ sym (ap (λ f. told f b) e)

same_look_on : (h : History) (a : Account) (k made : ℕ) (es : List Event) (bill : ℕ) → (a.finished ≡ true → es ≡ []) → Same h a → let r = (look_on k made es bill).1 in Same (note_look h r) (enter_look a r)
same_look_on h a k made [] bill f s = record { task = s.task; taken = s.taken; bill = refl }
same_look_on h a k made (found p ∷ es) bill f s =
    record { task = s.task; taken = s.taken; bill = unfinished h a bill (false_from_ne_true a.finished (λ e. cc (f e))) s }
same_look_on h a zero made (looked c ∷ es) bill f s =
    record { task = s.task; taken = s.taken; bill = unfinished h a bill (false_from_ne_true a.finished (λ e. cc (f e))) s }
same_look_on h a (suc k) made (looked c ∷ es) bill f s = same_look_on h a k (made + 1) es (bill + c) (λ e. cc (f e)) s

same_look_if : (h : History) (a : Account) (l : Laid) (k : ℕ) (q : Option Refusal) → (a.finished ≡ true → l.rest ≡ []) → Same h a → let r = (look_if l k q).1 in Same (note_look h r) (enter_look a r)
same_look_if h a l k (Some x) f s = s
same_look_if h a l k None f s = same_look_on h a k 0 l.rest l.bill f s

module _ (M : Priced) (lawful : Lawful (plain M)) where
  same_answer : (h : History) (a : Account) (s : Sheet) (c : Call) → Keeps M s a → Same h a → let r = (answer M s c).1 in Same (note h c r) (enter a c r)
  same_answer h a s (lay rules k o) v e = same_lay h a o (rule_numbered rules k) (answer M s (lay rules k o)).1 e
  same_answer h a clean (look k) v e = e
  same_answer h a (laid l) (look k) v e = same_look_if h a l k (look_fault l k) (λ f. (v.over (sym v.finished ∙ f)).0) e
  same_answer h a s (take strip) v e = same_take h a (answer M s (take strip)).1 e
  same_answer h a s wipe v e = record { task = refl; taken = refl; bill = refl }

  same_answers : (h : History) (a : Account) (s : Sheet) (cs : List Call) → ProperCalls cs → Keeps M s a → Same h a → Same (noted h cs (answers M s cs)) (entered a cs (answers M s cs))
  same_answers h a s [] fine v e = e
  same_answers h a s (c ∷ cs) fine v e =
      let x = answer M s c in
      same_answers (note h c x.1) (enter a c x.1) x.0 cs fine.1 (keeps_answer M lawful a s c fine.0 v) (same_answer h a s c v e)

tells : (M : Priced) (h : History) (a : Account) → Same h a → TellsAll M a → Tells M h
tells M h a s t =
    record {
      idle = λ q. s.taken ∙ ap (λ x. x.taken) (t.idle (sym s.task ∙ q));
      placed = λ r o q p i. t.placed r o (sym s.task ∙ q) p (subst (In p) s.taken i);
      apart = subst Apart (sym s.taken) t.apart;
      all = λ r o b q e. subst (λ ps. Lists (Places (plain M) r) ps) (sym s.taken) (t.all r o (sym s.task ∙ q) (told_out a.finished a.bill b (sym s.bill ∙ e)).0);
      billed = λ r o b q e.
          let x = told_out a.finished a.bill b (sym s.bill ∙ e) in
          sym x.1 ∙ t.billed r o (sym s.task ∙ q) x.0;
    }

pub calls_told : CallsTold
calls_told M lawful cs fine =
    let t = calls_accounted M lawful cs fine in
    let s = same_answers M lawful nothing no_entries clean cs fine refl (record { task = refl; taken = refl; bill = refl }) in
    let a = entered no_entries cs (answers M clean cs) in
    record {
      answered = refl;
      spent = t.spent;
      tells = tells M (noted nothing cs (answers M clean cs)) a s t.tells;
      finished = λ b e. t.bill ∙ (told_out a.finished a.bill b (sym s.bill ∙ e)).1;
    }
