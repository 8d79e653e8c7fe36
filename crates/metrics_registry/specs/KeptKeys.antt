-- How the keys of the series of one kind are stored: as a run, or each under a number.
use Rattle.metrics_registry.specs.KeyLists.{KeysText}
use Rattle.metrics_registry.specs.declared.key_list.Kept.{Kept}
use Rattle.metrics_registry.specs.declared.key_list.Kept.TheVariants as kept

-- the keys that are stored so
abbrev pub keys_kept : Kept → KeysText
keys_kept (kept.Run run) = run
keys_kept (kept.Numbered list) = list
