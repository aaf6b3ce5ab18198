-- The laws of written numbers.
use Rattle.std.proofs.Common.{◌≡◌, ℕ, false, List, [], ◌∷◌, ℤ, is_some, refl, ap}
use Rattle.std.specs.List.{AllByRecursion}
use Rattle.shape.specs.Kinds.{is_numeral}
use Rattle.parts.proofs.Cuts.{Lacks}
use Rattle.word.specs.Numbers.{is_number}
use Rattle.word.specs.declared.limits.Limits.{Limits}
use Rattle.writing.specs.Laws.{AllShaped, AllSound, NoOther, NotEmpty, Only, Parted, Shaped, Sound}
use Rattle.writing.specs.Numerals.{Keeps, word_of, words_of}
use Rattle.writing.proofs.Bytes.{every-lacks, lacks-tally, word-plain, word_some}
use Rattle.writing.proofs.Parting as parting
use Rattle.writing.proofs.Shapes as shapes
use Rattle.writing.proofs.Sounds as sounds
use Rattle.writing.proofs.Words.{back, near}

pub sound : Sound
sound m z k = ap is_some (back m z k)

pub not_empty : NotEmpty
not_empty m z k = word_some z (near m z k)

pub only : Only
only m z k = word-plain z (near m z k)

pub no_other : NoOther
no_other m z b k o = lacks-tally b (word_of z) (every-lacks is_numeral b (word_of z) o (only m z k))

pub whole : (m : Limits) (z : ℤ) → Keeps m z → shapes.Whole (word_of z)
whole m z k = (only m z k, not_empty m z k)

pub good : (m : Limits) (z : ℤ) → Keeps m z → sounds.Good is_numeral (is_number m) (word_of z)
good m z k = (only m z k, sound m z k)

pub lacks : (c : ℕ) → is_numeral c ≡ false → (m : Limits) (z : ℤ) → Keeps m z → Lacks c (word_of z)
lacks c o m z k = every-lacks is_numeral c (word_of z) o (only m z k)

-- what holds of the word of each number holds of all words
pub each : (P : List ℕ → Type 0) (m : Limits) → ((z : ℤ) → Keeps m z → P (word_of z)) → (zs : List ℤ) → AllByRecursion (Keeps m) zs → AllByRecursion P (words_of zs)
each P m h [] a = tt
each P m h (z ∷ zs) a = (h z a.0, each P m h zs a.1)

pub shaped : Shaped
shaped m z k = shapes.shaped (word_of z) (whole m z k)

pub parted : Parted
parted m z zs a = parting.parted 32 (word_of z) (words_of zs) (lacks 32 refl m z a.0) (each (Lacks 32) m (lacks 32 refl m) zs a.1)

pub all_sound : AllSound
all_sound m z zs a = sounds.joined-sound is_numeral (is_number m) refl (word_of z) (words_of zs) (good m z a.0) (each (sounds.Good is_numeral (is_number m)) m (good m) zs a.1)

pub all_shaped : AllShaped
all_shaped m z zs a = shapes.joined-shaped (word_of z) (words_of zs) (whole m z a.0) (each shapes.Whole m (whole m) zs a.1)
