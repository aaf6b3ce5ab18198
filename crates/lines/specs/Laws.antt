-- Texts put over bytes, one behind the other: the laws of a sink that writes.
use Rattle.std.proofs.Common.{◌≡◌, ℕ, ◌+◌, ◌-◌, ◌≤◌, List, [], ◌++◌, length, take, drop, sym, refl, ap, ◌∙◌, add-zero, arith}
use lib.Seq.{paste}
use Rattle.std.proofs.lemmas.List.Edits.{paste_all, paste-paste}
use Rattle.std.proofs.lemmas.List.{length-append, take-append-drop}
use Rattle.lines.specs.Fields.{laid, Put}

laid_paste : (at : ℕ) (text bytes : List ℕ) → paste bytes at text (length text) ≡ laid at text bytes
laid_paste at text bytes = paste_all bytes at text (length text) refl

laid-laid : (at : ℕ) (a b bytes : List ℕ) → at ≤ length bytes → laid (at + length a) b (laid at a bytes) ≡ laid at (a ++ b) bytes
laid-laid at a b bytes h =
    let n = length a in
    let m = length b in
    ap (laid (at + n) b) (sym (laid_paste at a bytes))
    ∙ sym (laid_paste (at + n) b (paste bytes at a n))
    ∙ paste-paste bytes at a b n m refl refl h
    ∙ paste_all bytes at (a ++ b) (n + m) (sym (length-append a b))
    ∙ ap (λ (k : ℕ). take at bytes ++ ((a ++ b) ++ drop (at + k) bytes)) (sym (length-append a b))

pub put_nothing : (at : ℕ) (bytes : List ℕ) → Put at [] bytes bytes at
put_nothing at bytes = record { bytes = sym (rw add-zero (take-append-drop at bytes)); ends = sym (add-zero at); same = refl }

pub put-put : (at mid end : ℕ) (a b before between after : List ℕ) → at ≤ length before → Put at a before between mid → Put mid b between after end → Put at (a ++ b) before after end
put-put at mid end a b before between after h p q =
    record {
      bytes = q.bytes ∙ ap (λ (k : ℕ). laid k b between) p.ends ∙ ap (laid (at + length a) b) p.bytes ∙ laid-laid at a b before h;
      ends = omega (arith, p.ends, q.ends, length-append a b);
      same = q.same ∙ p.same;
    }

-- the text fills what is no longer left behind it
pub put_rest : (at end : ℕ) (text before after : List ℕ) → end ≤ length after → Put at text before after end → (length after - end) + length text ≡ length before - at
put_rest at end text before after h p = omega (arith, p.ends, p.same)
