use Rattle.writing.proofs.Laws.{all_shaped, all_sound, no_other, not_empty, only, parted, shaped, sound}
use Rattle.writing.proofs.Words.{back}
use Rattle.writing.proofs.numerals_stand.Goals as goal

pub returns : goal.returns
returns c = record { back = back; sound = sound; not_empty = not_empty; only = only; no_other = no_other; shaped = shaped; parted = parted; all_sound = all_sound; all_shaped = all_shaped }
