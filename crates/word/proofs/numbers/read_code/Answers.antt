use Rattle.std.proofs.Common.{pos, sym, ◌∙◌, arith}
use Rattle.std.proofs.lemmas.Int.{ints, to_z-of_z}
use Rattle.word.specs.Numbers.{written}
use Rattle.word.proofs.Figures.{kept_bounds}
use Rattle.word.proofs.numbers.read_code.Goals as goal

pub map_or-requires : goal.map_or-requires
map_or-requires c = λ x e m r.
    let b = kept_bounds (pos 0) (pos 65535) x (written c.args.word.now) (sym e ∙ c.read_number.ensures) in (grind (arith, ints, to_z-of_z), grind (arith, ints, to_z-of_z))
