-- The kinds of names, and the characters that stand in them.
use Rattle.std.specs.Prelude.{ℕ, Bool, ◌||◌}
use Rattle.metrics_core.specs.Characters.{is_digit}
use Rattle.prom_format.specs.Names.{begins_metric_name, begins_label_name}
use Rattle.prom_format.specs.declared.names.NameKind.{NameKind}
use Rattle.prom_format.specs.declared.names.NameKind.TheVariants.{Metric, Label}

-- whether a character may begin a name of the kind
abbrev pub begins : NameKind → ℕ → Bool
begins Metric c = begins_metric_name c
begins Label c = begins_label_name c

-- whether it may stand behind the first one
abbrev pub continues : NameKind → ℕ → Bool
continues kind c = begins kind c || is_digit c
