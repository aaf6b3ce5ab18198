-- What an opened mark source means: the marks that passed the test, in the length that they passed it with.
use Rattle.source.specs.Meaning.{Meaning}
use Rattle.mark.specs.declared.opened.MarkSource.{MarkSource}
use Rattle.mark.specs.Listed.{listed}
use Rattle.mark.specs.Marks.{mark_meaning}

abbrev pub opened_meaning : MarkSource → Meaning
opened_meaning s = mark_meaning s.tested.length (listed s.tested.list)
