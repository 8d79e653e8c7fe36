-- What the names of families on a page follow from, and the lines above their rows.
use Rattle.std.specs.Prelude.{ℕ, Bool, List, ◌++◌, Option, None, option_map, option_and_then, if◌then◌else◌}
use Rattle.metrics_core.specs.declared.units.Unit.{Unit as UnitOf}
use Rattle.metric_descriptions.specs.Descriptions.{Description, description_of}
use Rattle.prom_format.specs.Names.{full_name}
use Rattle.prom_format.specs.Printed.{canonical_description}
use Rattle.prom_format.specs.Lines.{type_line}
use Rattle.prom_format.specs.Pages.{help_text}

-- whether units stand in names, and the descriptions that are published
pub record NamingText : Type 0 where
  pub units : Bool
  pub published : List Description

module _ (naming : NamingText) where
  -- the unit that stands in the name of the family under a metric name
  abbrev pub unit_in : List ℕ → Option UnitOf
  unit_in name = if naming.units then option_and_then (λ d. d.unit) (description_of naming.published name) else None

  abbrev pub help_in : List ℕ → Option (List ℕ)
  help_in name = option_map (λ d. canonical_description d.text) (description_of naming.published name)

  -- the full name of the family under a metric name
  abbrev pub shown_name : Option (List ℕ) → List ℕ → List ℕ
  shown_name suffix name = full_name name (unit_in name) suffix

  -- the lines above its rows: the help line, where it is described, and the type line
  abbrev pub title_text : Option (List ℕ) → List ℕ → List ℕ → List ℕ
  title_text suffix type name = help_text (shown_name suffix name) (help_in name) ++ type_line name (unit_in name) suffix type
