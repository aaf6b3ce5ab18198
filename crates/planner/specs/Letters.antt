-- A planned order.
use Rattle.few.specs.Few.{entries}
use Rattle.planner.specs.declared.planned.Planned.{Planned}
use Rattle.walk.specs.Walk.{Order}

-- `planned_order p`  the seed and the letters of what is planned
abbrev pub planned_order : Planned → Order
planned_order p = record { seed = p.seed; letters = entries p.letters }
