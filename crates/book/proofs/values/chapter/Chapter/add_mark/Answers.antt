use Rattle.std.proofs.Common.{◌≡◌, ◌<◌, true, length, vec_items, vec_len, ap, ◌∙◌, arith}
use Rattle.std.proofs.lemmas.Bool.{and_from, le-leb, lt-ltb}
use Rattle.book.specs.Entries.{all_held, held}
use Rattle.book.proofs.Entries.{every-push}
use Rattle.book.proofs.values.chapter.Chapter.add_mark.Goals as goal

pub invariant_of-self : goal.invariant_of-self
invariant_of-self c =
    let s = c.args.self.now in
    let count = vec_len s.book.motifs in
    let fits : held count c.args.mark ≡ true =
    let known : c.args.mark.motif < count = omega (arith, c.if-mark-motifs.false, ap length c.motifs.ensures.value, s.book.motifs.ok.0) in
    and_from _ _ (lt-ltb c.args.mark.motif count known) (and_from _ _ (le-leb c.args.mark.start 20000 c.if-mark-gt20000.false) (le-leb c.args.mark.end 20000 c.if-mark-gt20000-2.false)) in
    let all = ap (all_held count) c.push_reserved.ensures.items ∙ every-push (held count) (vec_items s.marks) c.args.mark s.held fits in
    record { short = s.short; few = omega arith; rowroom = s.rowroom; markroom = omega arith; held = all }
