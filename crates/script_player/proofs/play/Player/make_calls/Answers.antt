use denote.Param.Send.{sendable}
use Rattle.std.proofs.Common.{◌≡◌, ◌+◌, ◌<◌, ℕ, List, length, map, sym, ap, subst, ◌∙◌}
use Rattle.std.specs.Prelude.{All}
use Rattle.cell_lanes.specs.Lines.{LaneText}
use Rattle.cell_lanes.specs.Things.{fixed_of, root_of}
use Rattle.cell_lanes.specs.Lanes.{AllDone, AllFit, AllTaken, Each, Grew}
use Rattle.metrics_core.specs.declared.kinds.SeriesId.{SeriesId}
use Rattle.prom_exporter.specs.LanePasses as P
use Rattle.dsd_exporter.specs.LanePasses as D
use Rattle.exporter_lanes.specs.declared.exporters.Exporters.{Exporters}
use Rattle.exporter_lanes.specs.declared.exporters.ExporterCall.{ExporterCall}
use Rattle.exporter_lanes.specs.declared.exporters.ExporterCall.TheVariants as exporter
use Rattle.exporter_lanes.specs.ExporterLanes.{StandsAsEntries, TakesCall, first_prometheus, things_of}
use Rattle.exporter_lanes.proofs.Crossing.{exporters-send}
use Rattle.drive_script.specs.Texts.{call_line_of}
use Rattle.drive_script.specs.declared.script.CallLine.{CallLine}
use Rattle.script_player.specs.Flushes.{IsFlushCalled}
use Rattle.script_player.specs.LaneCalls.{calls_at, numbered_at}
use Rattle.script_player.specs.Orders.{IsCalled}
use Rattle.script_player.specs.Fitting.{FitsHandle}
use Rattle.script_player.specs.Player.{FitsCalls, PlayerText, lines_state, rows_state}
use Rattle.script_player.proofs.OverBoth.{all_taken, begin_at_rest, end_at_rest, flushes_called, is_round, lines_end_at_rest, pages_called}
use Rattle.script_player.proofs.RestingSteps.{when_ok}
use Rattle.script_player.proofs.Standing.{sends_nothing}
use Rattle.script_player.proofs.play.Player.make_calls.Goals as goal

pub lanes_of-requires-clause-fit : goal.lanes_of-requires-clause-fit
lanes_of-requires-clause-fit g c =
    let fit : FitsCalls _ c.args.calls.items = subst (λ (p : PlayerText). FitsCalls p c.args.calls.items) (sym c.self.view_is) c.requires.fit in
    subst (λ (hs : List SeriesId). All (λ (line : CallLine). FitsHandle hs (call_line_of line)) c.deref-3.result.now) (sym c.deref.ensures.value)
    (subst (All (λ (line : CallLine). FitsHandle c.self.inside.handles.items (call_line_of line))) (sym c.deref-3.ensures.value) fit.fit)

pub lanes_of-requires-clause-line_fit : goal.lanes_of-requires-clause-line_fit
lanes_of-requires-clause-line_fit g c =
    let fit : FitsCalls _ c.args.calls.items = subst (λ (p : PlayerText). FitsCalls p c.args.calls.items) (sym c.self.view_is) c.requires.fit in
    subst (λ (hs : List SeriesId). All (λ (line : CallLine). FitsHandle hs (call_line_of line)) c.deref-3.result.now) (sym c.deref-2.ensures.value)
    (subst (All (λ (line : CallLine). FitsHandle c.self.inside.line_handles.items (call_line_of line))) (sym c.deref-3.ensures.value) fit.lines_fit)

pub run_lanes-requires-send-S : goal.run_lanes-requires-send-S
run_lanes-requires-send-S g c κs within = search (sendable, exporters-send)

pub run_lanes-requires-clause-roots : goal.run_lanes-requires-clause-roots
run_lanes-requires-clause-roots g c κs within = begin_at_rest c.self.inside.exporters c.self.invariant.rest c.self.invariant.lines_rest

pub run_lanes-requires-clause-fit : goal.run_lanes-requires-clause-fit
run_lanes-requires-clause-fit g c κs within =
    subst (λ (lanes : List (LaneText ExporterCall)). AllFit (length (things_of c.self.inside.exporters)) lanes) (sym c.deref-4.ensures.value) c.in_ok-lanes.ensures.lanes.fit

pub run_lanes-requires-clause-taken : goal.run_lanes-requires-clause-taken
run_lanes-requires-clause-taken g c κs within =
    let old = c.self.inside.exporters in
    subst (AllTaken fixed_of TakesCall (things_of old)) (sym c.deref-4.ensures.value) (all_taken old c.self.invariant.rest c.in_ok-lanes.ensures.numbered c.in_ok-lanes.lanes.items c.in_ok-lanes.ensures.lanes.asked)

pub invariant_of-self-2 : goal.invariant_of-self-2
invariant_of-self-2 g c =
    let own = c.self.invariant in
    let run = c.run_lanes.ensures in
    record {
      rest = end_at_rest c.run_lanes.new.shared c.self.inside.exporters run.frame run.roots.0 run.roots.1 own.rest;
      lines_rest = lines_end_at_rest c.run_lanes.new.shared run.roots.0 run.roots.1;
      built = ap (λ (x : Exporters). x.prometheus.settings) run.frame ∙ own.built;
      lines_built = ap (λ (x : Exporters). x.dogstatsd.settings) run.frame ∙ own.lines_built;
      limit = own.limit;
      on_stream = own.on_stream;
      tags = own.tags;
    }

pub returns-clause-unsent : goal.returns-clause-unsent
returns-clause-unsent g c = sends_nothing c.args.self.now _ _ _ c.self.view_is

pub returns-clause-called : goal.returns-clause-called
returns-clause-called g c =
    let old = c.self.inside.exporters in
    let new = c.run_lanes.new.shared in
    let lanes = c.in_ok-lanes.lanes.items in
    let e = c.in_ok-lanes.ensures in
    let grew = c.run_lanes.ensures.grew in
    let each = subst (λ (ls : List (LaneText ExporterCall)). Each (Grew root_of StandsAsEntries ls grew.0) (things_of old) (things_of new)) c.deref-4.ensures.value grew.2 in
    let Same : List SeriesId → List CallLine → Type 0
    = λ hs calls. (j l : ℕ) → numbered_at (first_prometheus old + j) lanes l ≡ map exporter.Prometheus (calls_at c.args.moment (P.ids_of old.prometheus) hs l j calls) in
    let same = subst (Same c.self.inside.handles.items) c.deref-3.ensures.value (subst (λ hs. Same hs c.deref-3.result.now) c.deref.ensures.value e.calls.prometheus) in
    let fit : FitsCalls _ c.args.calls.items = subst (λ (p : PlayerText). FitsCalls p c.args.calls.items) (sym c.self.view_is) c.requires.fit in
    when_ok c.run_lanes.result grew.1 (λ done.
    let round = is_round old c.self.invariant.rest e.numbered lanes new grew.0 e.lanes.fit e.lanes.asked c.run_lanes.ensures.frame (subst (λ (ls : List (LaneText ExporterCall)). AllDone ls grew.0) c.deref-4.ensures.value done) each in
    λ text at are. subst (λ (p : PlayerText). IsCalled p.pages text (rows_state new.prometheus c.self.inside.handles.items)) c.self.view_is
    (pages_called c.args.moment old new c.self.inside.handles.items c.self.inside.line_handles.items c.args.calls.items lanes round e.lanes.numbers same fit.some c.self.invariant.rest fit.fit text at are))

pub returns-clause-flush_called : goal.returns-clause-flush_called
returns-clause-flush_called g c =
    let old = c.self.inside.exporters in
    let new = c.run_lanes.new.shared in
    let lanes = c.in_ok-lanes.lanes.items in
    let e = c.in_ok-lanes.ensures in
    let grew = c.run_lanes.ensures.grew in
    let each = subst (λ (ls : List (LaneText ExporterCall)). Each (Grew root_of StandsAsEntries ls grew.0) (things_of old) (things_of new)) c.deref-4.ensures.value grew.2 in
    let Same : List SeriesId → List CallLine → Type 0
    = λ hs calls. (j l : ℕ) → numbered_at (first_prometheus old + j) lanes l ≡ map exporter.Prometheus (calls_at c.args.moment (P.ids_of old.prometheus) hs l j calls) in
    let same = subst (Same c.self.inside.handles.items) c.deref-3.ensures.value (subst (λ hs. Same hs c.deref-3.result.now) c.deref.ensures.value e.calls.prometheus) in
    let LinesSame : List SeriesId → List CallLine → Type 0
    = λ hs calls. (j l : ℕ) → j < first_prometheus old → numbered_at j lanes l ≡ map exporter.DogStatsD (calls_at c.args.moment (D.ids_of old.dogstatsd) hs l j calls) in
    let fit : FitsCalls _ c.args.calls.items = subst (λ (p : PlayerText). FitsCalls p c.args.calls.items) (sym c.self.view_is) c.requires.fit in
    let lines_same = subst (LinesSame c.self.inside.line_handles.items) c.deref-3.ensures.value (subst (λ hs. LinesSame hs c.deref-3.result.now) c.deref-2.ensures.value e.calls.dogstatsd) in
    when_ok c.run_lanes.result grew.1 (λ done.
    let round = is_round old c.self.invariant.rest e.numbered lanes new grew.0 e.lanes.fit e.lanes.asked c.run_lanes.ensures.frame (subst (λ (ls : List (LaneText ExporterCall)). AllDone ls grew.0) c.deref-4.ensures.value done) each in
    λ text at are. subst (λ (p : PlayerText). IsFlushCalled p.flushes text (lines_state c.self.inside.flushes.marks new.dogstatsd c.self.inside.line_handles.items)) c.self.view_is
    (flushes_called c.args.moment old new c.self.inside.handles.items c.self.inside.line_handles.items c.args.calls.items lanes round e.lanes.numbers same fit.some lines_same c.self.inside.flushes.marks e.numbered fit.lines_fit text at are))
