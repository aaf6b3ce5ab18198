-- What the checks of a call come to: none, or the first refusal in the order of checking.
use Rattle.std.specs.Prelude.{Bool, cond, Some, None, Ok, Err, Option, Result}

-- `refuse test x rest`  x where the test holds, else what the checks after it give
abbrev pub refuse : {E : Type 0} → Bool → E → Option E → Option E
refuse test x rest = cond test (Some x) rest

-- `refused_by r`  what an answer refuses by, none where it is Ok
abbrev pub refused_by : {T E : Type 0} → Result T E → Option E
refused_by (Ok x) = None
refused_by (Err e) = Some e
