-- A job read into a page: line by line, up to the first that is at fault.
use Rattle.std.specs.Prelude.{ℕ, ◌+◌, cond, List, [], ◌∷◌, length, Some, None, Ok, Err, Option, Result, nat_lt}
use Rattle.parts.specs.Parts.{parts}
use Rattle.text.specs.Pages.{Page}
use Rattle.text.specs.Taking.{with_line_taken}
use Rattle.text.specs.declared.faults.TextFault.{TextFault}
use Rattle.text.specs.declared.faults.TextFault.TheVariants.{JobTooLong}
use Rattle.job.specs.declared.fault.JobFault.{JobFault}

-- `page`           the page of the lines that were read
-- `fault`          the fault of the line behind them, if there is one
pub record Read : Type 0 where
  pub page : Page
  pub fault : Option JobFault

-- `line_read p l`   the page p with the line l; an empty line brings nothing
abbrev pub line_read : Page → List ℕ → Result Page TextFault
line_read p [] = Ok p
line_read p (b ∷ l) = with_line_taken p (b ∷ l)

-- `read_on n p r ls`   the lines ls behind line n, which was read into the page p with the result r
abbrev pub read_on : ℕ → Page → Result Page TextFault → List (List ℕ) → Read
read_on n p (Err e) ls = record { page = p; fault = Some (record { line = n; fault = e }) }
read_on n p (Ok q) [] = record { page = q; fault = None }
read_on n p (Ok q) (l ∷ ls) = read_on (n + 1) q (line_read q l) ls

-- `read_lines p ls`    the lines, numbered from 1
abbrev pub read_lines : Page → List (List ℕ) → Read
read_lines p ls = read_on 0 p (Ok p) ls

-- `job_read p job`     a job has at most 60,000 bytes, and its lines end at byte 10 or with it
abbrev pub job_read : Page → List ℕ → Read
job_read p job =
    cond (nat_lt 60000 (length job)) (record { page = p; fault = Some (record { line = 0; fault = JobTooLong }) }) (read_lines p (parts 10 job))
