-- What a gauge's load reads.
use Rattle.legal_history.specs.declared.history.View.{View}
use Rattle.cell_lanes.specs.Calls.{Shows}
use Rattle.metrics_core.specs.declared.calls.SeriesCall.{SeriesCall}
use Rattle.metrics_core.specs.declared.numbers.Fixed.{Fixed as FixedOf}
use Rattle.series_cells.specs.Pass.{ReadsGauge}
use Rattle.series_cells.specs.Series.{gauged}

-- what a gauge's load reads, as its value
pub gauge_shows : (v : View SeriesCall) (value : FixedOf) (w : View SeriesCall) → ReadsGauge v value.0 w → Shows gauged v value w
gauge_shows v value w reads = (reads.0, reads.1, (λ i. record { 0 = reads.2 i }), reads.3)
