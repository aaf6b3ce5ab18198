-- What each state of the table stands for: the shape of what may follow.
use Rattle.std.proofs.Common.{◌≡◌, true, Some, None, Option, refl}
use Rattle.shape.specs.declared.kinds.Kind.{Kind}
use Rattle.shape.specs.declared.kinds.Kind.TheVariants.{Space, Shut, More, Numeral, Letter}
use Rattle.shape.specs.declared.states.State.{State}
use Rattle.shape.specs.declared.states.State.TheVariants.{NumberDue, InNumber, CodeDue, InCode, BodyDue, StarDone, ItemDue, InItem, ItemDone, ClassDue, InClass, NameDue, InName, LinkDue, LowDue, InLow, HighDue, InHigh, RangeDone}
use Rattle.shape.specs.declared.Form.{Form}
use Rattle.shape.specs.declared.Form.TheVariants.{Number, Codes, Body, Net}
use Rattle.shape.specs.Shape.{Shape, never, empty, one, ◌then◌, ◌or◌, many}
use Rattle.shape.specs.Grammar.{numeral, codes, item, body, parted, range, name, net, shape_of}
use Rattle.shape.specs.States.{next, final, begin}
use Rattle.shape.proofs.Same.{each_kind}
use Rattle.shape.specs.Follow.{after, may_end}
use Rattle.shape.proofs.Derive.{has_word}

abbrev pub items : Shape
items = many (one Space then item)

abbrev pub links : Shape
links = many (one Space then ((empty or (range then one Space)) then name))

abbrev pub shape_at : State → Shape
shape_at NumberDue = numeral
shape_at InNumber = many (one Numeral)
shape_at CodeDue = codes
shape_at InCode = many (one Numeral) then many (one Space then numeral)
shape_at BodyDue = body
shape_at StarDone = empty
shape_at ItemDue = parted item
shape_at InItem = many (one Numeral) then items
shape_at ItemDone = items
shape_at ClassDue = (codes then one Shut) then items
shape_at InClass = ((many (one Numeral) then many (one Space then numeral)) then one Shut) then items
shape_at NameDue = net
shape_at InName = many (one Letter) then links
shape_at LinkDue = ((empty or (range then one Space)) then name) then links
shape_at LowDue = (((numeral then (one Space then (numeral then one More))) then one Space) then name) then links
shape_at InLow = (((many (one Numeral) then (one Space then (numeral then one More))) then one Space) then name) then links
shape_at HighDue = (((numeral then one More) then one Space) then name) then links
shape_at InHigh = (((many (one Numeral) then one More) then one Space) then name) then links
shape_at RangeDone = (one Space then name) then links

abbrev pub shape_or : Option State → Shape
shape_or None = never
shape_or (Some s) = shape_at s

-- the table is right, each entry by computing
abbrev Right : State → Kind → Type 0
Right s k = shape_or (next s k) ≡ after k (shape_at s)

pub next-right : (s : State) (k : Kind) → shape_or (next s k) ≡ after k (shape_at s)
next-right NumberDue k = each_kind (Right NumberDue) (refl, refl, refl, refl, refl, refl, refl, refl, refl, refl) k
next-right InNumber k = each_kind (Right InNumber) (refl, refl, refl, refl, refl, refl, refl, refl, refl, refl) k
next-right CodeDue k = each_kind (Right CodeDue) (refl, refl, refl, refl, refl, refl, refl, refl, refl, refl) k
next-right InCode k = each_kind (Right InCode) (refl, refl, refl, refl, refl, refl, refl, refl, refl, refl) k
next-right BodyDue k = each_kind (Right BodyDue) (refl, refl, refl, refl, refl, refl, refl, refl, refl, refl) k
next-right StarDone k = each_kind (Right StarDone) (refl, refl, refl, refl, refl, refl, refl, refl, refl, refl) k
next-right ItemDue k = each_kind (Right ItemDue) (refl, refl, refl, refl, refl, refl, refl, refl, refl, refl) k
next-right InItem k = each_kind (Right InItem) (refl, refl, refl, refl, refl, refl, refl, refl, refl, refl) k
next-right ItemDone k = each_kind (Right ItemDone) (refl, refl, refl, refl, refl, refl, refl, refl, refl, refl) k
next-right ClassDue k = each_kind (Right ClassDue) (refl, refl, refl, refl, refl, refl, refl, refl, refl, refl) k
next-right InClass k = each_kind (Right InClass) (refl, refl, refl, refl, refl, refl, refl, refl, refl, refl) k
next-right NameDue k = each_kind (Right NameDue) (refl, refl, refl, refl, refl, refl, refl, refl, refl, refl) k
next-right InName k = each_kind (Right InName) (refl, refl, refl, refl, refl, refl, refl, refl, refl, refl) k
next-right LinkDue k = each_kind (Right LinkDue) (refl, refl, refl, refl, refl, refl, refl, refl, refl, refl) k
next-right LowDue k = each_kind (Right LowDue) (refl, refl, refl, refl, refl, refl, refl, refl, refl, refl) k
next-right InLow k = each_kind (Right InLow) (refl, refl, refl, refl, refl, refl, refl, refl, refl, refl) k
next-right HighDue k = each_kind (Right HighDue) (refl, refl, refl, refl, refl, refl, refl, refl, refl, refl) k
next-right InHigh k = each_kind (Right InHigh) (refl, refl, refl, refl, refl, refl, refl, refl, refl, refl) k
next-right RangeDone k = each_kind (Right RangeDone) (refl, refl, refl, refl, refl, refl, refl, refl, refl, refl) k

pub final-right : (s : State) → final s ≡ may_end (shape_at s)
final-right NumberDue = refl
final-right InNumber = refl
final-right CodeDue = refl
final-right InCode = refl
final-right BodyDue = refl
final-right StarDone = refl
final-right ItemDue = refl
final-right InItem = refl
final-right ItemDone = refl
final-right ClassDue = refl
final-right InClass = refl
final-right NameDue = refl
final-right InName = refl
final-right LinkDue = refl
final-right LowDue = refl
final-right InLow = refl
final-right HighDue = refl
final-right InHigh = refl
final-right RangeDone = refl

pub begin-right : (f : Form) → shape_at (begin f) ≡ shape_of f
begin-right Number = refl
begin-right Codes = refl
begin-right Body = refl
begin-right Net = refl

-- something may follow every state
pub goes_on : (s : State) → has_word (shape_at s) ≡ true
goes_on NumberDue = refl
goes_on InNumber = refl
goes_on CodeDue = refl
goes_on InCode = refl
goes_on BodyDue = refl
goes_on StarDone = refl
goes_on ItemDue = refl
goes_on InItem = refl
goes_on ItemDone = refl
goes_on ClassDue = refl
goes_on InClass = refl
goes_on NameDue = refl
goes_on InName = refl
goes_on LinkDue = refl
goes_on LowDue = refl
goes_on InLow = refl
goes_on HighDue = refl
goes_on InHigh = refl
goes_on RangeDone = refl
