-- Bodies as they are written.
use Rattle.std.specs.Prelude.{◌≡◌, ℕ, ◌<◌, ◌≤◌, List, [], ◌∷◌, ◌++◌, map, length, Some, None, Ok, Option}
use Rattle.std.specs.List.{AllByRecursion}
use Rattle.shape.specs.Follow.{misfit}
use Rattle.shape.specs.Grammar.{body}
use Rattle.shape.specs.Kinds.{is_numeral}
use Rattle.word.specs.Numbers.{is_number}
use Rattle.word.specs.Runs.{first_fault_of}
use Rattle.word.specs.declared.limits.Limits.TheVariants.{Code}
use Rattle.body.specs.Bodies.{body_of}
use Rattle.body.specs.Entries.{Entry, any, code, one_of}
use Rattle.writing.specs.Joined.{joined}
use Rattle.writing.specs.Lines.{Codes, codes_field}

-- `item_text e`     a code, `.`, or codes in `[ ]`
abbrev pub item_text : Entry → List ℕ
item_text (code c) = codes_field (c ∷ [])
item_text any = 46 ∷ []
item_text (one_of cs) = 91 ∷ (codes_field cs ++ 93 ∷ [])

-- `body_text b`     the items with one space between each two, `*` where there is no body
abbrev pub body_text : Option (List Entry) → List ℕ
body_text None = 42 ∷ []
body_text (Some es) = joined 32 (map item_text es)

-- `Lawful e`       codes have at most 16 bits, and a class has 1 to 8
abbrev pub Lawful : Entry → Type 0
Lawful (code c) = Codes (c ∷ [])
Lawful any = Unit {0}
Lawful (one_of cs) = (0 < length cs) × (length cs ≤ 8) × Codes cs

-- a body has 1 to 16 items
abbrev pub LawfulBody : Option (List Entry) → Type 0
LawfulBody None = Unit {0}
LawfulBody (Some es) = (0 < length es) × (length es ≤ 16) × AllByRecursion Lawful es

pub record Bodies : Type 0 where
  pub body_sound : (b : Option (List Entry)) → LawfulBody b → first_fault_of is_numeral (is_number Code) (body_text b) ≡ None
  pub body_shaped : (b : Option (List Entry)) → LawfulBody b → misfit body (body_text b) ≡ None
  pub body_back : (b : Option (List Entry)) → LawfulBody b → body_of (body_text b) ≡ Ok b
