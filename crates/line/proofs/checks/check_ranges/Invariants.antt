use Rattle.std.proofs.Common.{◌≡◌, ◌≤◌, length}
use Rattle.std.specs.List.{AllByRecursion}
use Rattle.word.specs.Fields.{bytes_of}
use Rattle.net.specs.Readers.{tokens_left}
use Rattle.net.specs.Tokens.{backward, net_tokens, place_of}
use Rattle.line.proofs.checks.check_ranges.Given as goal

abbrev pub invariant-loop-token : goal.invariant-loop-token
invariant-loop-token l =
    let w = bytes_of l.net in
    let ts = tokens_left l.token-iterator in
    (goal.iterator-loop-token).can_next l.token-iterator × (goal.iterator-loop-token).is_finite l.token-iterator × AllByRecursion (λ t. place_of t ≤ length w) ts × (backward ts ≡ backward (net_tokens w))
