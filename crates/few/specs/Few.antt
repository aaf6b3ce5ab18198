-- What a contract sees of a list of at most N entries.
use Rattle.std.specs.Prelude.{ℕ, List, take}
use Rattle.few.specs.declared.list.Few.{Few}

-- `entries f`        the entries, in order
abbrev pub entries : {T : Type 0} {N : ℕ} → Few T N → List T
entries f = take f.len f.kept
