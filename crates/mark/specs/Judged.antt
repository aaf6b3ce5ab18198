-- What the test of marks tells: the fault that it answers, and what each answer says of the marks themselves.
use Rattle.std.specs.Prelude.{ℕ, ◌+◌, ◌<◌, ◌≤◌, List, length, Some, None, Ok, Err, Option, Result, slice_index_or}
use Rattle.entry.specs.declared.mark.Mark.{Mark}
use Rattle.mark.specs.declared.fault.MarkFault.{MarkFault}
use Rattle.mark.specs.declared.fault.MarkFault.TheVariants.{TooLong, Entry}
use Rattle.mark.specs.declared.fault.MarkRefused.{MarkRefused}
use Rattle.mark.specs.declared.tested.MarkTest.{MarkTest}
use Rattle.mark.specs.Marks.{Before, LawfulMark}

-- the fault that the test answers, none where the marks pass
abbrev pub fault_of : Result MarkTest MarkRefused → Option MarkFault
fault_of (Ok t) = None
fault_of (Err e) = Some e.fault

-- the first e marks are lawful, and each but the first comes after the one before it
pub record Sound (n : ℕ) (ms : List Mark) (e : ℕ) : Type 0 where
  pub lawful : (i : ℕ) (d : Mark) → i < e → LawfulMark n (slice_index_or ms i d)
  pub ascending : (i : ℕ) (d : Mark) → i + 1 < e → Before (slice_index_or ms i d) (slice_index_or ms (i + 1) d)

-- the marks may be opened in n boxes
pub record Passed (n : ℕ) (ms : List Mark) : Type 0 where
  pub short : n ≤ 20000
  pub all : Sound n ms (length ms)

-- the mark at e is the first that fails: the marks before it are sound, and with it they are not
pub record FailsAt (n : ℕ) (ms : List Mark) (e : ℕ) : Type 0 where
  pub short : n ≤ 20000
  pub entry : e < length ms
  pub before : Sound n ms e
  pub fails : Sound n ms (e + 1) → ⊥

abbrev pub Judged : ℕ → List Mark → Option MarkFault → Type 0
Judged n ms None = Passed n ms
Judged n ms (Some TooLong) = 20000 < n
Judged n ms (Some (Entry e)) = FailsAt n ms e
