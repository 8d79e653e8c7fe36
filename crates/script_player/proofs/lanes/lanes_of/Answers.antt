use Rattle.std.proofs.Common.{◌≡◌, [], ◌∷◌, ◌++◌, ◌+◌, length, refl, sym, ap, ◌∙◌, subst, arith, length-append}
use Rattle.legal_history.proofs.Steps.{empty_list}
use Rattle.std.proofs.lemmas.Bool.{eqb-true}
use Rattle.script_player.specs.LaneCalls.{ids_of, lane_cells, lane_its}
use Rattle.script_player.specs.LaneTables.{lane_of}
use Rattle.script_player.proofs.LaneTables.{AreFrom, added, are_lanes, front_named, have_calls, last_named, none_from, skipped, some_of}
use Rattle.script_player.proofs.lanes.lanes_of.Goals as goal

pub loop-series-init : goal.loop-series-init
loop-series-init c = record {
  named = c.in_ok-all.ensures.named;
  made = none_from c.args.exporters.now c.args.handles.now c.args.line_handles.now c.args.moment c.args.calls.now (length c.in_ok-all.all.items) c.new-lanes.result.items c.new-lanes.ensures.items c.in_ok-all.ensures.below;
}

pub loop-series-preserved-then-is_empty : goal.loop-series-preserved-then-is_empty
loop-series-preserved-then-is_empty c =
    let exporters = c.args.exporters.now in
    let handles = c.args.handles.now in
    let line_handles = c.args.line_handles.now in
    let calls = c.args.calls.now in
    let series = c.in-Some.series in
    let all = c.loop-series.all.items in
    let front = c.pop.new.self.items in
    let is = c.in-Some.ensures.items in
    record {
      named = front_named (ids_of exporters) handles line_handles calls all front series is c.loop-series.invariant.named;
      made = skipped exporters handles line_handles c.args.moment calls (length front) c.loop-series.lanes.items (lane_cells series) (lane_its series)
          (last_named (ids_of exporters) handles line_handles calls all front series is c.loop-series.invariant.named)
          (empty_list (lane_its series) (sym series.calls.ok.0 ∙ eqb-true _ 0 (sym c.is_empty.ensures ∙ c.if-is_empty.true)))
          (subst (λ n. AreFrom exporters handles line_handles c.args.moment calls n c.loop-series.lanes.items) (ap length is ∙ length-append front (series ∷ [])) c.loop-series.invariant.made);
    }

pub loop-series-preserved : goal.loop-series-preserved
loop-series-preserved c =
    let exporters = c.args.exporters.now in
    let handles = c.args.handles.now in
    let line_handles = c.args.line_handles.now in
    let calls = c.args.calls.now in
    let series = c.in-Some.series in
    let all = c.loop-series.all.items in
    let front = c.pop.new.self.items in
    let is = c.in-Some.ensures.items in
    let busy = some_of _ (sym c.is_empty.ensures ∙ c.if-is_empty.false) in
    record {
      named = front_named (ids_of exporters) handles line_handles calls all front series is c.loop-series.invariant.named;
      made = added exporters handles line_handles c.args.moment calls (length front) c.loop-series.lanes.items c.push.new.self.items c.in_ok-into_lane.field-0 (lane_cells series) (lane_its series)
          (last_named (ids_of exporters) handles line_handles calls all front series is c.loop-series.invariant.named)
          (omega (arith, busy, series.calls.ok.0))
          (c.in_ok-into_lane.ensures.lane ∙ ap (λ n. lane_of n c.args.moment (lane_cells series) (lane_its series)) (c.len.ensures ∙ c.pop.new.self.ok.0))
          c.in_ok-into_lane.ensures.once c.in_ok-push.ensures.items
          (subst (λ n. AreFrom exporters handles line_handles c.args.moment calls n c.loop-series.lanes.items) (ap length is ∙ length-append front (series ∷ [])) c.loop-series.invariant.made);
    }

pub returns-clause-lanes : goal.returns-clause-lanes
returns-clause-lanes c =
    are_lanes c.args.exporters.now c.args.handles.now c.args.line_handles.now c.args.moment c.args.calls.now c.loop-series.lanes.items
    (subst (λ n. AreFrom c.args.exporters.now c.args.handles.now c.args.line_handles.now c.args.moment c.args.calls.now n c.loop-series.lanes.items)
    (sym c.loop-series.all.ok.0 ∙ c.in_default.ensures.cases.0) c.loop-series.invariant.made)

pub returns-clause-calls : goal.returns-clause-calls
returns-clause-calls c =
    have_calls c.args.exporters.now c.args.handles.now c.args.line_handles.now c.args.moment c.args.calls.now c.loop-series.lanes.items
    (subst (λ n. AreFrom c.args.exporters.now c.args.handles.now c.args.line_handles.now c.args.moment c.args.calls.now n c.loop-series.lanes.items)
    (sym c.loop-series.all.ok.0 ∙ c.in_default.ensures.cases.0) c.loop-series.invariant.made)
