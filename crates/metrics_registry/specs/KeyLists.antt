-- Keys in order, as contracts see them.
use Rattle.std.specs.Prelude.{List}
use Rattle.metrics_core.specs.Keys.{KeyText}

pub record KeysText : Type 0 where
  pub keys : List KeyText
