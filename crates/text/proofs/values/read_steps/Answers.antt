use Rattle.std.proofs.Common.{◌≡◌, ◌+◌, ◌<◌, ◌≤◌, ltb, [], ◌∷◌, ◌++◌, length, Some, sym, ap, ◌∙◌, subst, rules, length-append}
use Rattle.std.proofs.lemmas.Bool.{lt-ltb}
use Rattle.book.specs.Entries.{motif_names}
use Rattle.entry.specs.Named.{number_in}
use Rattle.std.specs.List.{AllByRecursion, list_all}
use Rattle.net.specs.Readers.{token_of, tokens_left}
use Rattle.net.specs.Tokens.{name, names_over, net_tokens, place_of}
use Rattle.text.specs.Held.{bounds_in, motifs_held, steps_held}
use Rattle.text.specs.Nets.{ahead, link_of, missing, steps_from}
use Rattle.text.proofs.Walks.{ahead_none, every_push, steps-name, under}
use Rattle.text.proofs.values.read_steps.Goals as goal

pub loop-token-init : goal.loop-token-init
loop-token-init c =
    let w = c.args.net.now in
    let names = motif_names c.args.motifs.now in
    let count = length c.args.motifs.now in
    let it = c.into_iter-token-iterator.result in
    let ts = tokens_left it in
    let g = bounds_in c.missing_range-range.result in
    let same : it ≡ c.new-token-items.result = search rules in
    let left : ts ≡ net_tokens w = ap tokens_left same ∙ c.new-token-items.ensures.left in
    let none = c.none-steps.ensures in (
      tt,
      tt,
      subst (λ r. AllByRecursion (λ t. place_of t ≤ length w) (tokens_left r)) (sym same) c.new-token-items.ensures.within,
      ap (λ ms. names_over (length ms) ts) none.motifs ∙ ap (names_over 0) left ∙ c.requires.few,
      ap (list_all (λ j. ltb j count)) none.motifs,
      ap (λ ls. ahead ls (steps_from names g ts)) none.kept ∙ ahead_none (steps_from names g ts) ∙ ap (λ x. steps_from names x ts) c.missing_range-range.ensures ∙ ap (steps_from names missing) left,
    )

pub loop-token-preserved-in-Name : goal.loop-token-preserved-in-Name
loop-token-preserved-in-Name c =
    let ts = tokens_left c.loop-token.token-iterator in
    let us = tokens_left c.next.new.self in
    let at = c.in-Name.at in
    let w = c.in-Name.letters.now in
    let k = c.in_ok-motif-in-Name.motif in
    let count = length c.args.motifs.now in
    let names = motif_names c.args.motifs.now in
    let inv = c.loop-token.invariant in
    let held = motifs_held c.loop-token.steps in
    let links = steps_held c.loop-token.steps in
    let g = bounds_in c.loop-token.range in
    let yields : ts ≡ name at w ∷ us = c.in-Some.ensures.steps ∙ ap (λ t. token_of t ∷ us) c.in-Name.is in
    let few = under (length held) at w ts us yields inv.3 in
    let motifs : motifs_held c.push.new.self ≡ held ++ k ∷ [] = search rules in
    let kept : steps_held c.push.new.self ≡ links ++ link_of g k ∷ [] = search rules in
    let named : Some k ≡ number_in w names = search rules in
    let bound : k < count = search rules in
    let first : bounds_in c.missing_range-range-in-Name.result ≡ missing = c.missing_range-range-in-Name.ensures in
    let one : length (held ++ k ∷ []) ≡ length held + 1 = length-append held (k ∷ []) in (
      tt,
      tt,
      (subst (AllByRecursion (λ t. place_of t ≤ length c.args.net.now)) yields inv.2).1,
      ap (λ ms. names_over (length ms) us) motifs ∙ ap (λ n. names_over n us) one ∙ few.1,
      ap (list_all (λ j. ltb j count)) motifs ∙ every_push (λ j. ltb j count) held k inv.4 (lt-ltb k count bound),
      steps-name names links g ts at k w (bounds_in c.missing_range-range-in-Name.result) (steps_held c.push.new.self) us yields named first kept ∙ inv.5,
    )
