use Rattle.std.specs.Char.{is_ascii_alphabetic}
use Rattle.entry.specs.Names.{is_name}
use Rattle.word.proofs.checks.check_letters.Given as goal

abbrev pub ghost-first_fault : goal.ghost-first_fault
ghost-first_fault a = record { part = is_ascii_alphabetic; sound = is_name }
