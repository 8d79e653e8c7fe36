-- Copies of setup lines for the flushes, in parts. This project's rule: of the setup the flushes want what it registers.
use Rattle.std.specs.Prelude.{◌≡◌, List, Result, Ok, fold, map, flat_map}
use Rattle.std.specs.declared.vec.Vec.{Vec}
use Rattle.std.specs.declared.alloc.Global.{Global}
use Rattle.metrics_core.specs.declared.memory.Memory.{Memory}
use Rattle.drive_script.specs.Texts.{setup_of}
use Rattle.drive_script.specs.declared.script.Setup.{Setup}
use Rattle.script_player.specs.Flushes.{FlushPlay, register_step}

-- what stands in parts, one behind the other
abbrev pub in_parts : List (Vec Setup Global) → List Setup
in_parts parts = flat_map (λ part. part.items) parts

-- the copies do to the flushes what the lines do
abbrev pub AreForFlushes : List Setup → List Setup → Type 0
AreForFlushes lines copies = (p : FlushPlay) → fold register_step p (map setup_of copies) ≡ fold register_step p (map setup_of lines)

-- a part was made, and is this
abbrev pub IsMade : Result (Vec Setup Global) Memory → Vec Setup Global → Type 0
IsMade result part = result ≡ Ok part
