-- What a motif's body means: which boxes fit its items.
use Rattle.std.specs.Prelude.{ℕ, Bool, true, false, ◌&&◌, List, [], ◌∷◌, Some, None, Option, ◌==◌, nat_eq}
use Rattle.std.specs.List.{list_any}
use Rattle.entry.specs.declared.body.Body.{Body}
use Rattle.entry.specs.declared.body.Class.{Class}
use Rattle.entry.specs.declared.body.Item.{Item}
use Rattle.few.specs.Few.{entries}
use Rattle.entry.specs.declared.body.Item.TheVariants.{Code, Any, Class as OneOf}

-- `codes_of c`       the codes of a class
abbrev pub codes_of : Class → List ℕ
codes_of c = entries c.codes

-- `items_of b`       the items of a body
abbrev pub items_of : Body → List Item
items_of b = entries b.items

-- `items b`         those of a motif's body, none where it has no body
abbrev pub items : Option Body → List Item
items None = []
items (Some b) = items_of b

-- `fits i x`        a box with the code x fits the item i
abbrev pub fits : Item → ℕ → Bool
fits (Code c) x = x == c
fits Any x = true
fits (OneOf c) x = list_any (nat_eq x) (codes_of c)

-- `all_fit is xs`    the first boxes of xs fit the items, one each
abbrev pub all_fit : List Item → List ℕ → Bool
all_fit [] xs = true
all_fit (i ∷ is) [] = false
all_fit (i ∷ is) (x ∷ xs) = fits i x && all_fit is xs
