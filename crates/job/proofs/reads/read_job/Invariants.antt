use Rattle.std.proofs.Common.{◌≡◌, ◌+◌, ◌≤◌, map, length, Ok}
use Rattle.std.specs.Iterator.Adapters.{enumerate_count, enumerate_source}
use Rattle.parts.specs.Parts.{parts}
use Rattle.parts.specs.Readers.{parts_left}
use Rattle.text.specs.Pages.{page_of}
use Rattle.job.specs.Jobs.{read_lines, read_on}
use Rattle.job.proofs.reads.read_job.Given as goal

abbrev pub invariant-loop-before : goal.invariant-loop-before
invariant-loop-before l =
    let p = page_of l.chapter in
    let n = enumerate_count l.before-iterator in
    let ls = map (λ q. q.bytes) (parts_left (enumerate_source l.before-iterator)) in
    (n + length ls ≤ length l.job + 1) × (read_on n p (Ok p) ls ≡ read_lines (page_of l.initial.chapter) (parts 10 l.job))
