-- Which handles calls name: those of register lines of the calls' kinds.
use Rattle.std.specs.Prelude.{◌≡◌, List, map, Some, slice_get}
use Rattle.metrics_core.specs.declared.kinds.MetricKind.{MetricKind}
use Rattle.metrics_core.specs.declared.kinds.SeriesId.{SeriesId}
use Rattle.drive_script.specs.Script.{CallLine, RoundText, kind_of}
use Rattle.drive_script.specs.Valid.{Registration, HaveHandles}

-- the series that a call's handle names, if any, is of the call's kind
abbrev pub FitsHandle : List SeriesId → CallLine → Type 0
FitsHandle handles call = (id : SeriesId) → slice_get handles call.handle ≡ Some id → id.kind ≡ kind_of call.act

abbrev pub kinds_of : List SeriesId → List MetricKind
kinds_of = map (λ id. id.kind)

-- from these handles on, each call of the rounds has the handle of an earlier register line of its kind
abbrev pub CallsFit : List SeriesId → List RoundText → Type 0
CallsFit handles rounds = (earlier : List Registration) × (kinds_of handles ≡ map (λ r. r.kind) earlier) × HaveHandles earlier rounds
