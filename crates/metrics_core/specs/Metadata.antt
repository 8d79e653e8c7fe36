-- How metadata is seen.
use Rattle.std.specs.Prelude.{ℕ, List, Option}
use Rattle.metrics_core.specs.declared.levels.Level.{Level as LevelOf}

-- where a metric comes from, how talkative it is, and the module it stands in, where that is known
pub record MetadataText : Type 0 where
  pub target : List ℕ
  pub level : LevelOf
  pub module_path : Option (List ℕ)
