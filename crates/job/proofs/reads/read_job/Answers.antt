use Rattle.std.proofs.Common.{◌≡◌, ◌+◌, ◌∷◌, map, length, Ok, sym, ap, ◌∙◌, inl, arith, rules}
use Rattle.std.proofs.lemmas.Result.{err_from_is_err_and}
use Rattle.std.specs.Iterator.Adapters.{enumerate_count, enumerate_source}
use Rattle.parts.specs.Parts.{parts}
use Rattle.parts.specs.Readers.{parts_left}
use Rattle.parts.proofs.Tallies.{length-parts, tally-bound}
use Rattle.text.specs.Pages.{page_of}
use Rattle.job.specs.Jobs.{read_on}
use Rattle.job.proofs.Reading.{fault_at, line_refused, lines_few, lines_placed}
use Rattle.job.proofs.reads.read_job.Goals as goal

pub returns-in_err-map_err : goal.returns-in_err-map_err
returns-in_err-map_err c =
    let start = page_of c.args.chapter.now in
    let p = page_of c.loop-before.chapter in
    let n = enumerate_count c.loop-before.before-iterator in
    let l = c.in-Some.line.bytes.now in
    let ls = map (λ q. q.bytes) (parts_left (enumerate_source c.loop-before.before-iterator)) in
    let more = map (λ q. q.bytes) (parts_left (enumerate_source c.next.new.self)) in
    let cut : ls ≡ l ∷ more = search rules in
    let at : c.in-Some.before + 1 ≡ n + 1 = search rules in
    let told : c.map_err.result ≡ fault_at (c.in-Some.before + 1) c.take_next.result = search rules in
    let w = line_refused c.args.job.now start p (page_of c.take_next.new.chapter) n (c.in-Some.before + 1) l more c.take_next.result c.in_err-map_err.field-0.0 c.if-job-gt-LONGEST.false (ap (read_on n p (Ok p)) (sym cut) ∙ c.loop-before.invariant.1) at (sym told ∙ c.in_err-map_err.was) c.take_next.ensures.refused c.take_next.ensures.page in
    let q = err_from_is_err_and c.from_residual.result c.from_residual.ensures.1 in
    rw (q.1, q.2) (record { refused = ap (λ x. x.fault) w.0; page = w.1 ∙ ap (λ x. x.page) w.0 })

pub loop-before-init-derived : goal.loop-before-init-derived
loop-before-init-derived c =
    let it = c.into_iter-before-iterator.result in
    let none : enumerate_count it ≡ 0 = search rules in
    let source : enumerate_source it ≡ c.new.result = search rules in
    let few = ap (λ s. length (parts_left s)) source ∙ ap length c.new.ensures.left in
    ((tt, tt, inl (omega (arith, none, few, lines_few c.args.job.now))), tt)

pub loop-before-init : goal.loop-before-init
loop-before-init c =
    let job = c.args.job.now in
    let p = page_of c.args.chapter.now in
    let it = c.into_iter-before-iterator.result in
    let none : enumerate_count it ≡ 0 = search rules in
    let source : enumerate_source it ≡ c.new.result = search rules in
    let ls = map (λ q. q.bytes) (parts_left (enumerate_source it)) in
    let lines : ls ≡ parts 10 job = ap (λ s. map (λ q. q.bytes) (parts_left s)) source ∙ ap (map (λ q. q.bytes)) c.new.ensures.left ∙ lines_placed job in
    (omega (arith, none, ap length lines, length-parts 10 job, tally-bound 10 job), ap (λ n. read_on n p (Ok p) ls) none ∙ ap (read_on 0 p (Ok p)) lines)
