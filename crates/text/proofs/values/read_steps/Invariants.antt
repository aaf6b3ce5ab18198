use Rattle.std.proofs.Common.{◌≡◌, ◌≤◌, true, ltb, length, None}
use Rattle.book.specs.Entries.{motif_names}
use Rattle.std.specs.List.{AllByRecursion, list_all}
use Rattle.net.specs.Readers.{tokens_left}
use Rattle.net.specs.Tokens.{names_over, place_of}
use Rattle.text.specs.Held.{bounds_in, motifs_held, steps_held}
use Rattle.text.specs.Nets.{ahead, steps_from, steps_in}
use Rattle.text.proofs.values.read_steps.Given as goal

abbrev pub invariant-loop-token : goal.invariant-loop-token
invariant-loop-token l =
    let w = l.net in
    let ts = tokens_left l.token-iterator in
    let names = motif_names l.motifs in
    (goal.iterator-loop-token).can_next l.token-iterator × (goal.iterator-loop-token).is_finite l.token-iterator × AllByRecursion (λ t. place_of t ≤ length w) ts × (names_over (length (motifs_held l.steps)) ts ≡ None) × (list_all (λ k. ltb k (length l.motifs)) (motifs_held l.steps) ≡ true) × (ahead (steps_held l.steps) (steps_from names (bounds_in l.range) ts) ≡ steps_in names w)
