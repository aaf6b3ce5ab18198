-- The shapes of the fields.
use Rattle.shape.specs.declared.kinds.Kind.TheVariants.{Space, Star, Dot, Open, Shut, Less, More, Numeral, Letter}
use Rattle.shape.specs.declared.Form.{Form}
use Rattle.shape.specs.declared.Form.TheVariants.{Number, Codes, Body, Net}
use Rattle.shape.specs.Shape.{Shape, empty, one, ◌then◌, ◌or◌, many}

-- a number word: one or more digits and minus signs (which of them are lawful numbers is another refusal's matter)
abbrev pub numeral : Shape
numeral = one Numeral then many (one Numeral)

-- a name: one or more letters (their number and case are another refusal's matter)
abbrev pub name : Shape
name = one Letter then many (one Letter)

-- one or more, parted by one space
abbrev pub parted : Shape → Shape
parted r = r then many (one Space then r)

abbrev pub codes : Shape
codes = parted numeral

-- a code, `.`, or codes in `[ ]`
abbrev pub item : Shape
item = numeral or (one Dot or (one Open then (codes then one Shut)))

abbrev pub body : Shape
body = one Star or parted item

-- `<l r>`
abbrev pub range : Shape
range = one Less then (numeral then (one Space then (numeral then one More)))

-- names parted by one space, between two of which a range may stand
abbrev pub net : Shape
net = name then many (one Space then ((empty or (range then one Space)) then name))

abbrev pub shape_of : Form → Shape
shape_of Number = numeral
shape_of Codes = codes
shape_of Body = body
shape_of Net = net
