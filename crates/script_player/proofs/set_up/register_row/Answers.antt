use Rattle.script_player.proofs.RestingSteps.{counter_rests, gauge_rests, histogram_rests}
use Rattle.script_player.proofs.set_up.register_row.Goals.{in-Counter+in_ok-id-in-Counter, in-Gauge+in_ok-id-in-Gauge, in-Histogram+in_ok-id-in-Histogram}
use Rattle.script_player.proofs.set_up.register_row.Goals as goal

pub returns-in_err-push-clause-rest : goal.returns-in_err-push-clause-rest
returns-in_err-push-clause-rest c =
    elim c.match-kind.branch [
      | in-Counter+in_ok-id-in-Counter w ↦ rw w.pages-is (counter_rests _ _ _ w.in_ok-id-in-Counter.ensures.cells)
      | in-Gauge+in_ok-id-in-Gauge w ↦ rw w.pages-is (gauge_rests _ _ _ w.in_ok-id-in-Gauge.ensures.cells)
      | in-Histogram+in_ok-id-in-Histogram w ↦ rw w.pages-is (histogram_rests _ _ _ w.in_ok-id-in-Histogram.ensures.cells)
    ]

pub returns-clause-rest : goal.returns-clause-rest
returns-clause-rest c =
    elim c.match-kind.branch [
      | in-Counter+in_ok-id-in-Counter w ↦ rw w.pages-is (counter_rests _ _ _ w.in_ok-id-in-Counter.ensures.cells)
      | in-Gauge+in_ok-id-in-Gauge w ↦ rw w.pages-is (gauge_rests _ _ _ w.in_ok-id-in-Gauge.ensures.cells)
      | in-Histogram+in_ok-id-in-Histogram w ↦ rw w.pages-is (histogram_rests _ _ _ w.in_ok-id-in-Histogram.ensures.cells)
    ]

pub returns-in_err-push-2-clause-rest : goal.returns-in_err-push-2-clause-rest
returns-in_err-push-2-clause-rest c =
    elim c.match-kind.branch [
      | in-Counter+in_ok-id-in-Counter w ↦ rw w.pages-is (counter_rests _ _ _ w.in_ok-id-in-Counter.ensures.cells)
      | in-Gauge+in_ok-id-in-Gauge w ↦ rw w.pages-is (gauge_rests _ _ _ w.in_ok-id-in-Gauge.ensures.cells)
      | in-Histogram+in_ok-id-in-Histogram w ↦ rw w.pages-is (histogram_rests _ _ _ w.in_ok-id-in-Histogram.ensures.cells)
    ]
