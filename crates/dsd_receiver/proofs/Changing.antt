-- What is left of an exporter where a series of it was lent, was called, and was given back.
use Rattle.std.proofs.Common.{◌≡◌, ◌⊎◌, Bool, true, false, cond, List, [], ◌∷◌, ◌++◌, map, Option, Some, None, refl, sym, ap, subst, ◌∙◌, ⊎_elim}
use Rattle.std.specs.Prelude.{find, option_map}
use Rattle.std.proofs.lemmas.Option.{same_Some}
use Rattle.legal_history.specs.declared.history.View.{View}
use Rattle.legal_history.specs.History.{Settled}
use Rattle.metrics_core.specs.declared.kinds.MetricKind.TheVariants as kinds
use Rattle.metrics_core.specs.declared.kinds.SeriesId.{SeriesId}
use Rattle.metrics_core.specs.declared.calls.SeriesCall.{SeriesCall}
use Rattle.metrics_core.specs.Calls.{Call}
use Rattle.metrics_registry.specs.Live.{LiveSeries, AreOf, IsNumbered, cell_of, has_id, set_cell, with_cell}
use Rattle.series_cells.specs.declared.counter.PromCounter.{PromCounter}
use Rattle.series_cells.specs.declared.gauge.PromGauge.{PromGauge}
use Rattle.series_cells.specs.declared.pass.CellPass.{CellPass}
use Rattle.series_cells.specs.Pass.{view_of}
use Rattle.sample_queue.specs.Passes as samples
use Rattle.sample_queue.specs.declared.calls.QueueCall.TheVariants.{Push}
use Rattle.histogram_series.specs.Entries.{TimedCall, TimedQueue}
use Rattle.histogram_series.specs.Series.{with_one_back}
use Rattle.prom_exporter.specs.declared.lent.Lent.{Lent}
use Rattle.prom_exporter.specs.Shared.{IsHome, TakesBack, with_lent}
use Rattle.prom_exporter.specs.Sampled.{Sampled, IsAtRest, calls_known}
use Rattle.prom_exporter.specs.Values.{SeenCell, seen_cell, series_of}
use Rattle.prom_exporter.specs.Exporter.{Exporter, AllHome, SharedCounter, SharedGauge, ChangesCounter, ChangesGauge, ChangesHistogram, state_of}
use Rattle.prom_exporter.specs.Lending.{HasNoCounter, HasNoGauge, HasNoHistogram, LendsCounter, LendsGauge, LendsHistogram, LentCounter, LentGauge, LentHistogram, TimedPass}
use Rattle.prom_exporter.proofs.States.{all-with_cell}
use Rattle.dsd_receiver.specs.Received.{after_calls}
use Rattle.dsd_receiver.specs.Passes.{IsCounterHeld, IsGaugeHeld, IsHistogramHeld, IsSettled, MakesCalls, MakesRecords}
use Rattle.dsd_receiver.proofs.Calling.{after_more, called, called_none, shown, with_more}
use Rattle.dsd_receiver.proofs.Settling.{at_all, found_at}
use Rattle.dsd_receiver.proofs.Growth.{given_back, sampled_grew, sampled_home, value_grew, value_home, value_note}

-- ---- a cell that is put back twice

module _ {X : Type 0} (id : SeriesId) where
  pub cell_put : (es : List (LiveSeries X)) (before after : X) → cell_of id es ≡ Some before → cell_of id (with_cell id es after) ≡ Some after
  cell_put [] before after found = absurd cc
  cell_put (e ∷ es) before after found = by (has_id id e) refl (λ later. cell_put es before after later)
    where
      by : (b : Bool) → has_id id e ≡ b → (cell_of id es ≡ Some before → cell_of id (with_cell id es after) ≡ Some after) → cell_of id (with_cell id (e ∷ es) after) ≡ Some after
      by true has rest =
          ap (λ (s : LiveSeries X). option_map (λ (s : LiveSeries X). s.cell) (cond (has_id id s) (Some s) (find (has_id id) (with_cell id es after)))) (ap (λ b. cond b (record e { cell = after }) e) has)
          ∙ ap (λ b. option_map (λ (s : LiveSeries X). s.cell) (cond b (Some (record e { cell = after })) (find (has_id id) (with_cell id es after)))) has
      by false has rest =
          ap (λ (s : LiveSeries X). option_map (λ (s : LiveSeries X). s.cell) (cond (has_id id s) (Some s) (find (has_id id) (with_cell id es after)))) (ap (λ b. cond b (record e { cell = after }) e) has)
          ∙ ap (λ b. option_map (λ (s : LiveSeries X). s.cell) (cond b (Some e) (find (has_id id) (with_cell id es after)))) has
          ∙ rest (sym (ap (λ b. option_map (λ (s : LiveSeries X). s.cell) (cond b (Some e) (find (has_id id) es))) has) ∙ found)

  set_twice : (e : LiveSeries X) (one two : X) → set_cell id two (set_cell id one e) ≡ set_cell id two e
  set_twice e one two = by (has_id id e) refl
    where
      by : (b : Bool) → has_id id e ≡ b → set_cell id two (set_cell id one e) ≡ set_cell id two e
      by true has =
          ap (set_cell id two) (ap (λ b. cond b (record e { cell = one }) e) has)
          ∙ ap (λ b. cond b (record e { cell = two }) (record e { cell = one })) has
          ∙ sym (ap (λ b. cond b (record e { cell = two }) e) has)
      by false has = ap (set_cell id two) (ap (λ b. cond b (record e { cell = one }) e) has)

  pub put_twice : (es : List (LiveSeries X)) (one two : X) → with_cell id (with_cell id es one) two ≡ with_cell id es two
  put_twice [] one two = refl
  put_twice (e ∷ es) one two = (λ i. set_twice e one two i ∷ put_twice es one two i)

map_shown : {X : Type 0} (seen : X → SeenCell) (es : List (LiveSeries X)) → map series_of (map (λ (s : LiveSeries X). record { id = s.id; key = s.key; cell = seen s.cell }) es) ≡ map (shown seen) es
map_shown seen [] = refl
map_shown seen (e ∷ es) = ap (λ l. shown seen e ∷ l) (map_shown seen es)

abbrev sampled_cell : Sampled → SeenCell
sampled_cell s = record { calls = calls_known s; note = s.note }

module _ (old : Exporter) (id : SeriesId) (numbered : IsNumbered old.series) where
  -- ---- counters

  pub counter_none : (calls : List Call) → id.kind ≡ kinds.Counter → HasNoCounter id old → state_of old ≡ after_calls kinds.Counter id.number calls (state_of old)
  counter_none calls kind none =
      let es = old.series.counters in
      let seen = map_shown seen_cell es in
      let are = subst (λ k. AreOf k old.series.made es) (sym kind) numbered.counters.1 in
      sym (after_more kinds.Counter id.number calls (state_of old)
      ∙ ap (λ l. record (state_of old) { counters = l }) (ap (map (with_more id.number calls)) seen ∙ sym (called_none seen_cell id calls es old.series.made are none) ∙ sym seen))

  module _ (lent : Lent (Option PromCounter) CellPass) (out : Exporter) (lends : LendsCounter id (Some lent) old out) where
    abbrev counter : SharedCounter
    counter = lends.0

    counter_out : cell_of id out.series.counters ≡ Some lends.1
    counter_out = ap (λ (e : Exporter). cell_of id e.series.counters) lends.4 ∙ cell_put id old.series.counters counter lends.1 lends.2

    counter_id : lent.id ≡ id
    counter_id = lends.3.0.id_is

    counter_out_own : cell_of lent.id out.series.counters ≡ Some lends.1
    counter_out_own = ap (λ i. cell_of i out.series.counters) counter_id ∙ counter_out

    -- what was lent is held, and can be given back
    pub counter_held : IsCounterHeld lent.handle lent.pass
    counter_held = (lends.3.0.made, lends.3.0.handle, lends.3.0.pass)

    pub counter_lent : (pass : CellPass) → IsCounterHeld lent.handle pass → LentCounter out (record { handle = lent.handle; pass = pass; id = lent.id })
    counter_lent pass held own found =
        let same : own ≡ lends.1 = same_Some own lends.1 (sym found ∙ counter_out_own) in
        (held.0, ap (λ (s : SharedCounter). s.cell) (same ∙ lends.3.1) ∙ sym lends.3.0.handle ∙ held.1, held.2)

    module _ (pass : CellPass) (new : Exporter) (kind : id.kind ≡ kinds.Counter) (home : AllHome old) (settled : IsSettled id old) (calls : List Call) (makes : MakesCalls lent.pass calls pass)
        (taken : (HasNoCounter lent.id out × (new ≡ out)) ⊎ ChangesCounter lent.id (TakesBack (view_of pass)) out new) where
      counter_back : ChangesCounter lent.id (TakesBack (view_of pass)) out new
      counter_back = ⊎_elim
          (λ (none : HasNoCounter lent.id out × (new ≡ out)). let absent : None ≡ Some lends.1 = sym none.0 ∙ counter_out_own in absurd cc)
          (λ (back : ChangesCounter lent.id (TakesBack (view_of pass)) out new). back) taken

      abbrev counter_left : SharedCounter
      counter_left = counter_back.1

      -- the exporter's own look behind the pass
      counter_takes : TakesBack (view_of pass) (with_lent lends.3.0.made counter) counter_left
      counter_takes = subst (λ (s : SharedCounter). TakesBack (view_of pass) s counter_left) (same_Some counter_back.0 lends.1 (sym counter_back.2 ∙ counter_out_own) ∙ lends.3.1) counter_back.3

      counter_new : new ≡ record old { series = record old.series { counters = with_cell id old.series.counters counter_left } }
      counter_new =
          counter_back.4
          ∙ ap (λ i. record out { series = record out.series { counters = with_cell i out.series.counters counter_left } }) counter_id
          ∙ ap (λ (e : Exporter). record e { series = record e.series { counters = with_cell id e.series.counters counter_left } }) lends.4
          ∙ ap (λ l. record old { series = record old.series { counters = l } }) (put_twice id old.series.counters lends.1 counter_left)

      counter_was_home : IsHome counter
      counter_was_home = let at = found_at id old.series.counters counter lends.2 in subst (λ (s : SharedCounter). IsHome s) at.4 (at_all (λ (s : LiveSeries SharedCounter). IsHome s.cell) old.series.counters at.0 at.1 at.2 home.0)

      counter_knew : Settled counter.root
      counter_knew = settled.counter counter lends.2

      are_counters : AreOf id.kind old.series.made old.series.counters
      are_counters = subst (λ k. AreOf k old.series.made old.series.counters) (sym kind) numbered.counters.1

      counter_grew : seen_cell counter_left ≡ record { calls = (seen_cell counter).calls ++ calls; note = counter.note }
      counter_grew =
          let grew = value_grew counter counter_left lends.3.0.made (view_of pass) counter_was_home counter_knew counter_takes makes.0 (makes.2 ∙ ap (λ (v : View SeriesCall). v.mine ++ makes.0) lends.3.0.knows) in
          let note = value_note counter counter_left lends.3.0.made (view_of pass) counter_was_home counter_knew counter_takes in
          (λ i. record { calls = (grew ∙ ap (λ cs. (seen_cell counter).calls ++ cs) makes.1) i; note = note i })

      pub counter_called : state_of new ≡ after_calls kinds.Counter id.number calls (state_of old)
      counter_called =
          let es = old.series.counters in
          let own = called seen_cell id calls es old.series.made counter counter_left numbered.counters.0 are_counters lends.2 (ap (λ (c : SeenCell). c.calls) counter_grew) (ap (λ (c : SeenCell). c.note) counter_grew) in
          ap state_of counter_new
          ∙ ap (λ l. record (state_of old) { counters = l }) (map_shown seen_cell (with_cell id es counter_left) ∙ own ∙ sym (ap (map (with_more id.number calls)) (map_shown seen_cell es)))
          ∙ sym (after_more kinds.Counter id.number calls (state_of old))

      pub counter_home : AllHome new
      counter_home =
          let left = value_home counter counter_left lends.3.0.made (view_of pass) counter_was_home counter_knew counter_takes in
          let all = all-with_cell (λ (s : LiveSeries SharedCounter). IsHome s.cell) id old.series.counters old.series.made counter counter_left numbered.counters.0 are_counters lends.2 (λ s is own. left) home.0 in
          subst AllHome (sym counter_new) (all, home.1, home.2)

      pub counter_settings : new.settings ≡ old.settings
      counter_settings = ap (λ (e : Exporter). e.settings) counter_new

  -- ---- gauges

  pub gauge_none : (calls : List Call) → id.kind ≡ kinds.Gauge → HasNoGauge id old → state_of old ≡ after_calls kinds.Gauge id.number calls (state_of old)
  gauge_none calls kind none =
      let es = old.series.gauges in
      let seen = map_shown seen_cell es in
      let are = subst (λ k. AreOf k old.series.made es) (sym kind) numbered.gauges.1 in
      sym (after_more kinds.Gauge id.number calls (state_of old)
      ∙ ap (λ l. record (state_of old) { gauges = l }) (ap (map (with_more id.number calls)) seen ∙ sym (called_none seen_cell id calls es old.series.made are none) ∙ sym seen))

  module _ (lent : Lent (Option PromGauge) CellPass) (out : Exporter) (lends : LendsGauge id (Some lent) old out) where
    abbrev gauge : SharedGauge
    gauge = lends.0

    gauge_out : cell_of id out.series.gauges ≡ Some lends.1
    gauge_out = ap (λ (e : Exporter). cell_of id e.series.gauges) lends.4 ∙ cell_put id old.series.gauges gauge lends.1 lends.2

    gauge_id : lent.id ≡ id
    gauge_id = lends.3.0.id_is

    gauge_out_own : cell_of lent.id out.series.gauges ≡ Some lends.1
    gauge_out_own = ap (λ i. cell_of i out.series.gauges) gauge_id ∙ gauge_out

    -- what was lent is held, and can be given back
    pub gauge_held : IsGaugeHeld lent.handle lent.pass
    gauge_held = (lends.3.0.made, lends.3.0.handle, lends.3.0.pass)

    pub gauge_lent : (pass : CellPass) → IsGaugeHeld lent.handle pass → LentGauge out (record { handle = lent.handle; pass = pass; id = lent.id })
    gauge_lent pass held own found =
        let same : own ≡ lends.1 = same_Some own lends.1 (sym found ∙ gauge_out_own) in
        (held.0, ap (λ (s : SharedGauge). s.cell) (same ∙ lends.3.1) ∙ sym lends.3.0.handle ∙ held.1, held.2)

    module _ (pass : CellPass) (new : Exporter) (kind : id.kind ≡ kinds.Gauge) (home : AllHome old) (settled : IsSettled id old) (calls : List Call) (makes : MakesCalls lent.pass calls pass)
        (taken : (HasNoGauge lent.id out × (new ≡ out)) ⊎ ChangesGauge lent.id (TakesBack (view_of pass)) out new) where
      gauge_back : ChangesGauge lent.id (TakesBack (view_of pass)) out new
      gauge_back = ⊎_elim
          (λ (none : HasNoGauge lent.id out × (new ≡ out)). let absent : None ≡ Some lends.1 = sym none.0 ∙ gauge_out_own in absurd cc)
          (λ (back : ChangesGauge lent.id (TakesBack (view_of pass)) out new). back) taken

      abbrev gauge_left : SharedGauge
      gauge_left = gauge_back.1

      -- the exporter's own look behind the pass
      gauge_takes : TakesBack (view_of pass) (with_lent lends.3.0.made gauge) gauge_left
      gauge_takes = subst (λ (s : SharedGauge). TakesBack (view_of pass) s gauge_left) (same_Some gauge_back.0 lends.1 (sym gauge_back.2 ∙ gauge_out_own) ∙ lends.3.1) gauge_back.3

      gauge_new : new ≡ record old { series = record old.series { gauges = with_cell id old.series.gauges gauge_left } }
      gauge_new =
          gauge_back.4
          ∙ ap (λ i. record out { series = record out.series { gauges = with_cell i out.series.gauges gauge_left } }) gauge_id
          ∙ ap (λ (e : Exporter). record e { series = record e.series { gauges = with_cell id e.series.gauges gauge_left } }) lends.4
          ∙ ap (λ l. record old { series = record old.series { gauges = l } }) (put_twice id old.series.gauges lends.1 gauge_left)

      gauge_was_home : IsHome gauge
      gauge_was_home = let at = found_at id old.series.gauges gauge lends.2 in subst (λ (s : SharedGauge). IsHome s) at.4 (at_all (λ (s : LiveSeries SharedGauge). IsHome s.cell) old.series.gauges at.0 at.1 at.2 home.1)

      gauge_knew : Settled gauge.root
      gauge_knew = settled.gauge gauge lends.2

      are_gauges : AreOf id.kind old.series.made old.series.gauges
      are_gauges = subst (λ k. AreOf k old.series.made old.series.gauges) (sym kind) numbered.gauges.1

      gauge_grew : seen_cell gauge_left ≡ record { calls = (seen_cell gauge).calls ++ calls; note = gauge.note }
      gauge_grew =
          let grew = value_grew gauge gauge_left lends.3.0.made (view_of pass) gauge_was_home gauge_knew gauge_takes makes.0 (makes.2 ∙ ap (λ (v : View SeriesCall). v.mine ++ makes.0) lends.3.0.knows) in
          let note = value_note gauge gauge_left lends.3.0.made (view_of pass) gauge_was_home gauge_knew gauge_takes in
          (λ i. record { calls = (grew ∙ ap (λ cs. (seen_cell gauge).calls ++ cs) makes.1) i; note = note i })

      pub gauge_called : state_of new ≡ after_calls kinds.Gauge id.number calls (state_of old)
      gauge_called =
          let es = old.series.gauges in
          let own = called seen_cell id calls es old.series.made gauge gauge_left numbered.gauges.0 are_gauges lends.2 (ap (λ (c : SeenCell). c.calls) gauge_grew) (ap (λ (c : SeenCell). c.note) gauge_grew) in
          ap state_of gauge_new
          ∙ ap (λ l. record (state_of old) { gauges = l }) (map_shown seen_cell (with_cell id es gauge_left) ∙ own ∙ sym (ap (map (with_more id.number calls)) (map_shown seen_cell es)))
          ∙ sym (after_more kinds.Gauge id.number calls (state_of old))

      pub gauge_home : AllHome new
      gauge_home =
          let left = value_home gauge gauge_left lends.3.0.made (view_of pass) gauge_was_home gauge_knew gauge_takes in
          let all = all-with_cell (λ (s : LiveSeries SharedGauge). IsHome s.cell) id old.series.gauges old.series.made gauge gauge_left numbered.gauges.0 are_gauges lends.2 (λ s is own. left) home.1 in
          subst AllHome (sym gauge_new) (home.0, all, home.2)

      pub gauge_settings : new.settings ≡ old.settings
      gauge_settings = ap (λ (e : Exporter). e.settings) gauge_new

  -- ---- histograms

  pub histogram_none : (calls : List Call) → id.kind ≡ kinds.Histogram → HasNoHistogram id old → state_of old ≡ after_calls kinds.Histogram id.number calls (state_of old)
  histogram_none calls kind none =
      let es = old.series.histograms in
      let seen = map_shown sampled_cell es in
      let are = subst (λ k. AreOf k old.series.made es) (sym kind) numbered.histograms.1 in
      sym (after_more kinds.Histogram id.number calls (state_of old)
      ∙ ap (λ l. record (state_of old) { histograms = l }) (ap (map (with_more id.number calls)) seen ∙ sym (called_none sampled_cell id calls es old.series.made are none) ∙ sym seen))

  module _ (lent : Lent (Option TimedQueue) TimedPass) (out : Exporter) (lends : LendsHistogram id (Some lent) old out) where
    abbrev histogram : Sampled
    histogram = lends.0

    histogram_out : cell_of id out.series.histograms ≡ Some lends.1
    histogram_out = ap (λ (e : Exporter). cell_of id e.series.histograms) lends.4 ∙ cell_put id old.series.histograms histogram lends.1 lends.2

    pub histogram_id : lent.id ≡ id
    histogram_id = lends.3.0.id_is

    histogram_out_own : cell_of lent.id out.series.histograms ≡ Some lends.1
    histogram_out_own = ap (λ i. cell_of i out.series.histograms) histogram_id ∙ histogram_out

    -- what was lent is held, and can be given back
    pub histogram_held : IsHistogramHeld lent.handle lent.pass
    histogram_held = (histogram.series.cell, lends.3.0.handle, lends.3.0.pass)

    pub histogram_lent : (pass : TimedPass) → IsHistogramHeld lent.handle pass → LentHistogram out (record { handle = lent.handle; pass = pass; id = lent.id })
    histogram_lent pass held own found =
        let same : own ≡ lends.1 = same_Some own lends.1 (sym found ∙ histogram_out_own) in
        let queue : own.series.cell ≡ held.0 = ap (λ (s : Sampled). s.series.cell) (same ∙ lends.3.1) ∙ same_Some histogram.series.cell held.0 (sym lends.3.0.handle ∙ held.1) in
        subst (λ q. samples.IsSamplePass q pass) (sym queue) held.2

    module _ (pass : TimedPass) (new : Exporter)
        (taken : (HasNoHistogram lent.id out × (new ≡ out)) ⊎ ChangesHistogram lent.id (λ s t. t ≡ record s { series = with_one_back (samples.view_of pass) s.series }) out new) where
      abbrev histogram_left : Sampled
      histogram_left = given_back histogram (samples.view_of pass)

      pub histogram_new : new ≡ record old { series = record old.series { histograms = with_cell id old.series.histograms histogram_left } }
      histogram_new = ⊎_elim
          (λ (none : HasNoHistogram lent.id out × (new ≡ out)). let absent : None ≡ Some lends.1 = sym none.0 ∙ histogram_out_own in absurd cc)
          (λ (back : ChangesHistogram lent.id (λ s t. t ≡ record s { series = with_one_back (samples.view_of pass) s.series }) out new).
          let left : back.1 ≡ histogram_left = back.3 ∙ ap (λ (s : Sampled). record s { series = with_one_back (samples.view_of pass) s.series }) (same_Some back.0 lends.1 (sym back.2 ∙ histogram_out_own) ∙ lends.3.1) in
          back.4
          ∙ (λ i. record out { series = record out.series { histograms = with_cell (histogram_id i) out.series.histograms (left i) } })
          ∙ ap (λ (e : Exporter). record e { series = record e.series { histograms = with_cell id e.series.histograms histogram_left } }) lends.4
          ∙ ap (λ l. record old { series = record old.series { histograms = l } }) (put_twice id old.series.histograms lends.1 histogram_left))
          taken

      pub histogram_settings : new.settings ≡ old.settings
      histogram_settings = ap (λ (e : Exporter). e.settings) histogram_new

      module _ (kind : id.kind ≡ kinds.Histogram) (home : AllHome old) where
        are_histograms : AreOf id.kind old.series.made old.series.histograms
        are_histograms = subst (λ k. AreOf k old.series.made old.series.histograms) (sym kind) numbered.histograms.1

        histogram_was_home : IsAtRest histogram
        histogram_was_home = let at = found_at id old.series.histograms histogram lends.2 in subst (λ (s : Sampled). IsAtRest s) at.4 (at_all (λ (s : LiveSeries Sampled). IsAtRest s.cell) old.series.histograms at.0 at.1 at.2 home.2)

        pub histogram_home : AllHome new
        histogram_home =
            let left = sampled_home histogram (samples.view_of pass) histogram_was_home in
            let all = all-with_cell (λ (s : LiveSeries Sampled). IsAtRest s.cell) id old.series.histograms old.series.made histogram histogram_left numbered.histograms.0 are_histograms lends.2 (λ s is own. left) home.2 in
            subst AllHome (sym histogram_new) (home.0, home.1, all)

        module _ (settled : IsSettled id old) (again : IsSettled id new) (calls : List Call) (makes : MakesRecords lent.pass calls pass) where
          histogram_knows : Settled histogram_left.series.root
          histogram_knows = again.histogram histogram_left (ap (λ (e : Exporter). cell_of id e.series.histograms) histogram_new ∙ cell_put id old.series.histograms histogram histogram_left lends.2)

          histogram_grew : calls_known histogram_left ≡ calls_known histogram ++ calls
          histogram_grew =
              sampled_grew histogram (samples.view_of pass) (settled.histogram histogram lends.2) histogram_knows makes.0
              (makes.2 ∙ ap (λ (v : View TimedCall). v.mine ++ map Push makes.0) lends.3.0.knows)
              ∙ ap (λ cs. calls_known histogram ++ cs) makes.1

          pub histogram_called : state_of new ≡ after_calls kinds.Histogram id.number calls (state_of old)
          histogram_called =
              let es = old.series.histograms in
              let own = called sampled_cell id calls es old.series.made histogram histogram_left numbered.histograms.0 are_histograms lends.2 histogram_grew refl in
              ap state_of histogram_new
              ∙ ap (λ l. record (state_of old) { histograms = l }) (map_shown sampled_cell (with_cell id es histogram_left) ∙ own ∙ sym (ap (map (with_more id.number calls)) (map_shown sampled_cell es)))
              ∙ sym (after_more kinds.Histogram id.number calls (state_of old))
