-- The numbers of the refusals, as they are printed; every contract that refuses cites them.
use Rattle.std.specs.Prelude.{ℕ}
use Rattle.refusal.specs.declared.Refusal.{Refusal}
use Rattle.refusal.specs.declared.Refusal.TheVariants.{TooLong, UnknownKind, WrongCommas, BadName, BadNumber, BadShape, BackwardRange, TooMany, NameTaken, UnknownMotif, NoRoom, SourceTooLong, BadMark, UnknownRule, ForecastTooLarge, BadOrder, SheetLaid, SheetClean, BadAllowance, FindHeld, BillTooHigh, NoFind, ShortStrip, BadShow, ShortLine}

abbrev pub number_of : Refusal → ℕ
number_of TooLong = 1
number_of UnknownKind = 2
number_of WrongCommas = 3
number_of BadName = 4
number_of BadNumber = 5
number_of BadShape = 6
number_of BackwardRange = 7
number_of TooMany = 8
number_of NameTaken = 9
number_of UnknownMotif = 10
number_of NoRoom = 11
number_of SourceTooLong = 12
number_of BadMark = 13
number_of UnknownRule = 14
number_of ForecastTooLarge = 15
number_of BadOrder = 16
number_of SheetLaid = 17
number_of SheetClean = 18
number_of BadAllowance = 19
number_of FindHeld = 20
number_of BillTooHigh = 21
number_of NoFind = 22
number_of ShortStrip = 23
number_of BadShow = 24
number_of ShortLine = 25
