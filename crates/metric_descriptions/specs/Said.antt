-- What a description that is lent says.
use Rattle.std.specs.Prelude.{ℕ, List, Option}
use Rattle.metrics_core.specs.declared.units.Unit.{Unit as UnitOf}
use Rattle.metric_descriptions.specs.declared.descriptions.Described.{Described}

-- its text and its unit
abbrev pub said : Described → List ℕ × Option UnitOf
said d = (d.text.now, d.unit)
