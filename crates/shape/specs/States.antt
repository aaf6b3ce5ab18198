-- The states of the shape test, as a table: what a byte of a kind leads to.
use Rattle.std.specs.Prelude.{Bool, true, false, cond, Some, None, Option}
use Rattle.shape.specs.declared.kinds.Kind.{Kind}
use Rattle.shape.specs.declared.kinds.Kind.TheVariants.{Space, Star, Dot, Open, Shut, Less, More, Numeral, Letter}
use Rattle.shape.specs.declared.states.State.{State}
use Rattle.shape.specs.declared.states.State.TheVariants.{NumberDue, InNumber, CodeDue, InCode, BodyDue, StarDone, ItemDue, InItem, ItemDone, ClassDue, InClass, NameDue, InName, LinkDue, LowDue, InLow, HighDue, InHigh, RangeDone}
use Rattle.shape.specs.Follow.{same}
use Rattle.shape.specs.declared.Form.{Form}
use Rattle.shape.specs.declared.Form.TheVariants.{Number, Codes, Body, Net}

abbrev pub on : Kind → Kind → State → Option State → Option State
on k j t e = cond (same k j) (Some t) e

abbrev pub next : State → Kind → Option State
next NumberDue k = on k Numeral InNumber None
next InNumber k = on k Numeral InNumber None
next CodeDue k = on k Numeral InCode None
next InCode k = on k Numeral InCode (on k Space CodeDue None)
next BodyDue k = on k Star StarDone (on k Numeral InItem (on k Dot ItemDone (on k Open ClassDue None)))
next StarDone k = None
next ItemDue k = on k Numeral InItem (on k Dot ItemDone (on k Open ClassDue None))
next InItem k = on k Numeral InItem (on k Space ItemDue None)
next ItemDone k = on k Space ItemDue None
next ClassDue k = on k Numeral InClass None
next InClass k = on k Numeral InClass (on k Space ClassDue (on k Shut ItemDone None))
next NameDue k = on k Letter InName None
next InName k = on k Letter InName (on k Space LinkDue None)
next LinkDue k = on k Letter InName (on k Less LowDue None)
next LowDue k = on k Numeral InLow None
next InLow k = on k Numeral InLow (on k Space HighDue None)
next HighDue k = on k Numeral InHigh None
next InHigh k = on k Numeral InHigh (on k More RangeDone None)
next RangeDone k = on k Space NameDue None

abbrev pub final : State → Bool
final NumberDue = false
final InNumber = true
final CodeDue = false
final InCode = true
final BodyDue = false
final StarDone = true
final ItemDue = false
final InItem = true
final ItemDone = true
final ClassDue = false
final InClass = false
final NameDue = false
final InName = true
final LinkDue = false
final LowDue = false
final InLow = false
final HighDue = false
final InHigh = false
final RangeDone = false

abbrev pub begin : Form → State
begin Number = NumberDue
begin Codes = CodeDue
begin Body = BodyDue
begin Net = NameDue
