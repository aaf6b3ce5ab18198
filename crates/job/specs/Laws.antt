-- Laws of reading: where a job is refused, and what it leaves.
use Rattle.std.specs.Prelude.{◌≡◌, ℕ, ◌-◌, ◌≤◌, List, [], ◌++◌, length, take, Some, None, Err, slice_index_or}
use Rattle.text.specs.Pages.{Page}
use Rattle.text.specs.declared.faults.TextFault.{TextFault}
use Rattle.job.specs.Jobs.{line_read, read_lines}

-- `within`         the line n is one of the lines
-- `before`         the lines before it are all taken, and their page is what is left
-- `line`           the line n itself is not taken into that page
pub record StopsAt (p : Page) (ls : List (List ℕ)) (n : ℕ) (e : TextFault) : Type 0 where
  pub within : (1 ≤ n) × (n ≤ length ls)
  pub before : read_lines p (take (n - 1) ls) ≡ record { page = (read_lines p ls).page; fault = None }
  pub line : line_read (read_lines p ls).page (slice_index_or ls (n - 1) []) ≡ Err e

-- `stops`          a refused text leaves exactly the lines before the first that is at fault
-- `in_turn`        lines that are all taken and lines behind them make the page that reading them in turn makes
pub record ReadingLaws : Type 0 where
  pub stops : (p : Page) (ls : List (List ℕ)) (n : ℕ) (e : TextFault) → (read_lines p ls).fault ≡ Some (record { line = n; fault = e }) → StopsAt p ls n e
  pub in_turn : (p : Page) (ls ms : List (List ℕ)) → (read_lines p ls).fault ≡ None → (read_lines p (ls ++ ms)).page ≡ (read_lines (read_lines p ls).page ms).page
