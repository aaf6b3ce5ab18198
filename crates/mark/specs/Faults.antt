-- The first fault of marks that are to be opened as a source: none, the length, or an entry.
use Rattle.std.specs.Prelude.{ℕ, ◌+◌, Bool, true, not, ◌&&◌, List, [], ◌∷◌, Some, None, Option, nat_le, nat_lt}
use Rattle.refusal.specs.declared.Refusal.{Refusal}
use Rattle.refusal.specs.declared.Refusal.TheVariants.{SourceTooLong, BadMark}
use Rattle.refusal.specs.Checks.{refuse}
use Rattle.entry.specs.declared.mark.Mark.{Mark}
use Rattle.mark.specs.declared.fault.MarkFault.{MarkFault}
use Rattle.mark.specs.declared.fault.MarkFault.TheVariants.{TooLong, Entry}
use Rattle.mark.specs.Keys.{before, start_key}

-- `follows p m`    m comes strictly after p, the mark before it, by motif, then start, then end; the first mark follows none
-- `fits n p m`     m also has a motif of 0 to 15, does not end before it starts, and ends within n boxes
abbrev pub follows : Option Mark → Mark → Bool
follows None m = true
follows (Some p) m = before (start_key p) (start_key m)

abbrev pub fits : ℕ → Option Mark → Mark → Bool
fits n p m = follows p m && (nat_le m.motif 15 && (nat_le m.start m.end && nat_le m.end n))

-- of the marks from entry e on, where p is the one before them
abbrev pub fault_from : ℕ → Option Mark → ℕ → List Mark → Option MarkFault
fault_from n p e [] = None
fault_from n p e (m ∷ ms) = refuse (not (fits n p m)) (Entry e) (fault_from n (Some m) (e + 1) ms)

-- the length is judged before the marks
abbrev pub mark_fault : ℕ → List Mark → Option MarkFault
mark_fault n ms = refuse (nat_lt 20000 n) TooLong (fault_from n None 0 ms)

-- the refusal that tells a fault
abbrev pub refusal_of : MarkFault → Refusal
refusal_of TooLong = SourceTooLong
refusal_of (Entry e) = BadMark
