use Rattle.std.proofs.Common.{◌≡◌, Some, None, sym, rules}
use Rattle.std.specs.Prelude.{codes}
use Rattle.std.specs.Int.NonZero.{non_zero_u32_get}
use Rattle.prom_format.specs.MatcherTexts.{matcher_text}
use Rattle.drive_script.specs.Reading.{quantiles_at, buckets_at, buckets_for_at, summary_at, idle_at, label_line_at, series_limit_at, native_for_at, switch_at}
use Rattle.drive_script.specs.Texts.{header_of, label_of, native_of, values_of}
use Rattle.drive_script.proofs.HeaderForms.{quantiles_takes, buckets_takes, buckets_for_takes, summary_takes, idle_takes, series_limit_takes, global_takes, native_for_takes, switch_takes, payload_read, no_header}
use Rattle.drive_script.proofs.headers.header_line.Goals as goal

pub returns-in-Some : goal.returns-in-Some
returns-in-Some c =
    let read : label_line_at (codes "global ") c.args.line.now ≡ Some (label_of (c.in-Some.key, c.in-Some.value)) = search rules in
    global_takes c.args.line.now (label_of (c.in-Some.key, c.in-Some.value)) read

pub returns-in-Some-2 : goal.returns-in-Some-2
returns-in-Some-2 c =
    let read : buckets_for_at c.args.line.now ≡ Some (matcher_text c.in-Some-2.matcher, values_of c.in-Some-2.bounds.items) = search rules in
    buckets_for_takes c.args.line.now (matcher_text c.in-Some-2.matcher) (values_of c.in-Some-2.bounds.items) read

pub returns-in-Some-3 : goal.returns-in-Some-3
returns-in-Some-3 c =
    let read : buckets_at c.args.line.now ≡ Some (values_of c.in-Some-3.bounds.items) = search rules in
    buckets_takes c.args.line.now (values_of c.in-Some-3.bounds.items) read

pub returns-in-Some-4 : goal.returns-in-Some-4
returns-in-Some-4 c =
    let read : quantiles_at c.args.line.now ≡ Some (values_of c.in-Some-4.quantiles.items) = search rules in
    quantiles_takes c.args.line.now (values_of c.in-Some-4.quantiles.items) read

pub returns-in-Some-summary_line : goal.returns-in-Some-summary_line
returns-in-Some-summary_line c =
    let read : summary_at c.args.line.now ≡ Some (non_zero_u32_get c.in-Some-summary_line.count, c.in-Some-summary_line.duration) = search rules in
    summary_takes c.args.line.now (non_zero_u32_get c.in-Some-summary_line.count) c.in-Some-summary_line.duration read

pub returns-in-Some-idle_line : goal.returns-in-Some-idle_line
returns-in-Some-idle_line c = idle_takes c.args.line.now _ _ (sym c.in-Some-idle_line.ensures)

pub returns-in-Some-series_limit_line : goal.returns-in-Some-series_limit_line
returns-in-Some-series_limit_line c = series_limit_takes c.args.line.now _ (sym c.in-Some-series_limit_line.ensures)

pub returns-in-Some-5 : goal.returns-in-Some-5
returns-in-Some-5 c =
    let native = native_of (c.in-Some-5.matcher, c.in-Some-5.factor, c.in-Some-5.max_buckets, c.in-Some-5.threshold) in
    let read : native_for_at c.args.line.now ≡ Some native = search rules in
    native_for_takes c.args.line.now native read

pub returns-in-Some-switch_line : goal.returns-in-Some-switch_line
returns-in-Some-switch_line c =
    let says = header_of c.in-Some-switch_line.switch in
    let read : switch_at c.args.line.now ≡ Some says = search rules in
    switch_takes c.args.line.now says read

pub returns-in-None : goal.returns-in-None
returns-in-None c =
    let no_global : label_line_at (codes "global ") c.args.line.now ≡ None = search rules in
    let no_rule : buckets_for_at c.args.line.now ≡ None = search rules in
    let no_buckets : buckets_at c.args.line.now ≡ None = search rules in
    let no_quantiles : quantiles_at c.args.line.now ≡ None = search rules in
    let no_summary : summary_at c.args.line.now ≡ None = search rules in
    let no_idle : idle_at c.args.line.now ≡ None = search rules in
    let no_series_limit : series_limit_at c.args.line.now ≡ None = search rules in
    let no_native : native_for_at c.args.line.now ≡ None = search rules in
    let no_switch : switch_at c.args.line.now ≡ None = search rules in
    payload_read c.args.line.now c.payload_line.result c.payload_line.ensures (no_header c.args.line.now no_global no_rule no_buckets no_quantiles no_summary no_idle no_series_limit no_native no_switch)
