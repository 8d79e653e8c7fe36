use Rattle.std.proofs.Common.{◌≡◌, ℕ, ◌<◌, ◌+◌, length, set, refl, sym, ap, subst, ◌∙◌, take, arith}
use Rattle.std.specs.Prelude.{option_map, slice_get, slice_index_or}
use mathlib.Core.Option.{some}
use lib.ListN.{get_elem?}
use Rattle.std.proofs.lemmas.List.{length-set, take_more}
use Rattle.cell_lanes.proofs.Lists.{take_whole}
use Rattle.drive_script.specs.declared.script.CallLine.{CallLine}
use Rattle.drive_script.specs.declared.script.Act.TheVariants as acts
use Rattle.script_player.specs.declared.lanes.LaneSeries.{LaneSeries}
use Rattle.script_player.specs.declared.lanes.Places.{Places}
use Rattle.script_player.specs.LaneCalls.{ids_of}
use Rattle.script_player.specs.LaneTables.{AllNamed, ArePlacesOf}
use Rattle.script_player.proofs.LaneSteps.{dogstatsd_many}
use Rattle.script_player.proofs.LaneTables.{all_empty, all_taken, get_read}
use Rattle.script_player.proofs.lanes.series_of.Goals as goal

default : CallLine
default = record { lane = 0; handle = 0; act = acts.Inc 0 }

pub loop-line-init : goal.loop-line-init
loop-line-init c = record {
  many = refl;
  named = all_empty (ids_of c.args.exporters.now) c.args.handles.now c.args.line_handles.now c.in_ok-all.all.items c.in_ok-all.ensures.empty;
}

pub loop-line-preserved : goal.loop-line-preserved
unfolding default
loop-line-preserved c =
    let i = c.loop-line.line-index in
    let ids = ids_of c.args.exporters.now in
    let handles = c.args.handles.now in
    let line_handles = c.args.line_handles.now in
    let calls = c.args.calls.now in
    let line : CallLine = slice_index_or calls i default in
    let all = c.loop-line.all.items in
    let old : LaneSeries = c.index_mut.result.now in
    let new : LaneSeries = c.name_both.new.self in
    let is : c.from.result ≡ line.lane = c.from.ensures in
    let within : line.lane < length all
    = (let less = c.lanes_in.ensures i default c.loop-line-test.true in let many = c.loop-line.invariant.many in let first = c.in_ok-all.ensures.many in omega (arith, less, many, first)) in
    let at : get_elem? all line.lane ≡ some old = get_read all line.lane old within (subst (λ (n : ℕ). old ≡ slice_index_or all n old) is c.index_mut.ensures.value) in
    let found = c.prometheus_place-prometheus.result in
    let places : Places = record { prometheus = c.in_ok-behind.field-0; dogstatsd = c.dogstatsd_place.result } in
    let first : places.prometheus ≡ option_map (λ k. length ids.dogstatsd + k) found = c.in_ok-behind.ensures ∙ ap (λ n. option_map (λ k. n + k) found) (c.series_count-first.ensures.count ∙ sym (dogstatsd_many c.args.exporters.now.dogstatsd)) in
    let are : ArePlacesOf ids (slice_get handles line.handle) (slice_get line_handles line.handle) places = (found, first, c.prometheus_place-prometheus.ensures, c.dogstatsd_place.ensures) in
    record {
      many = length-set all c.from.result new ∙ c.loop-line.invariant.many;
      named = subst (λ xs. AllNamed ids handles line_handles xs (set all c.from.result new)) (sym (take_more calls i default c.loop-line-test.true))
          (all_taken ids handles line_handles (take i calls) line all (set all c.from.result new) old new places at (ap (λ n. set all n new) is) c.in_ok-name_both.ensures are
          (c.requires.fit i default c.loop-line-test.true) (c.requires.line_fit i default c.loop-line-test.true) c.loop-line.invariant.named);
    }

pub returns-clause-named : goal.returns-clause-named
returns-clause-named c =
    subst (λ xs. AllNamed (ids_of c.args.exporters.now) c.args.handles.now c.args.line_handles.now xs c.loop-line.all.items)
    (take_whole c.args.calls.now c.loop-line.line-index c.loop-line-test.false) c.loop-line.invariant.named
