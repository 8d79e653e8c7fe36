-- What an item of the program, and the key in it, stand for.
use Rattle.std.specs.Prelude.{ℕ, List, codes}
use Rattle.metrics_core.specs.Keys.{KeyText}
use Rattle.dsd_writer.specs.declared.items.LineType.{LineType as LineTypeOf}
use Rattle.dsd_writer.specs.declared.items.SeriesKey.{SeriesKey}
use Rattle.dsd_writer.specs.declared.items.SeriesKey.TheVariants.{Live, Kept}
use Rattle.dsd_writer.specs.declared.items.LineType.TheVariants.{Counter, Gauge, Histogram, Distribution}

-- the type of a line, by its letter
abbrev pub type_text : LineTypeOf → List ℕ
type_text Counter = codes "c"
type_text Gauge = codes "g"
type_text Histogram = codes "h"
type_text Distribution = codes "d"

-- the key of a series
abbrev pub key_text : SeriesKey → KeyText
key_text (Live key) = key.now
key_text (Kept key) = key.now
