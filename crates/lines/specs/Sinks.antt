-- What a sink takes.
use Rattle.std.specs.Prelude.{◌≡◌, ℕ, ◌<◌, List, length, Ok, Err, Result}
use Rattle.refusal.specs.declared.Refusal.{Refusal}
use Rattle.refusal.specs.declared.Refusal.TheVariants.{ShortLine}

-- `Puts room took s text r t`  the sink s took the text and is t, or it has too little room, and refuses by 25
abbrev pub Puts : {S : Type 0} → (S → ℕ) → (S → List ℕ → S → Type 0) → S → List ℕ → Result (Unit {0}) Refusal → S → Type 0
Puts room took s text (Ok _) t = took s text t
Puts room took s text (Err e) t = (e ≡ ShortLine) × (room s < length text)
