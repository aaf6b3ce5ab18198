use Rattle.std.proofs.Common.{◌≤◌, is_ok, vec_items, vec_len, arith}
use Rattle.book.proofs.Entries.{held_more, no_shorter}
use Rattle.book.proofs.values.chapter.Chapter.add_motif.Goals as goal

pub invariant_of-self : goal.invariant_of-self
invariant_of-self c =
    let s = c.args.self.now in
    let old = s.book.motifs in
    let new = c.add_motif.new.self.motifs in
    let longer = no_shorter (is_ok c.add_motif.result) (vec_items old) (vec_items new) c.args.motif c.add_motif.ensures.motifs in
    let more : vec_len old ≤ vec_len new = omega (arith, longer, old.ok.0, new.ok.0) in
    record { short = s.short; few = s.few; rowroom = s.rowroom; markroom = s.markroom; held = held_more (vec_len old) (vec_len new) more (vec_items s.marks) s.held }
