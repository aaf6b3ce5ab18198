use Rattle.shape.specs.Kinds.{is_numeral}
use Rattle.word.specs.Numbers.{is_number}
use Rattle.word.proofs.checks.check_numbers.Given as goal

abbrev pub ghost-first_fault : goal.ghost-first_fault
ghost-first_fault a = record { part = is_numeral; sound = is_number a.is_sound.0.now }
