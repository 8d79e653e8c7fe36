-- What is sent one after the other.
use Rattle.std.proofs.Common.{◌≡◌, ℕ, ◌-◌, ◌*◌, ◌/◌, Bool, Option, arith, List, [], ◌∷◌, ◌++◌, cond, sym, ap, refl, ◌∙◌, append_assoc}
use Rattle.std.specs.Prelude.{nat_lt, length, decimal}
use Rattle.std.proofs.lemmas.List.{append-nil, length-map}
use Rattle.std.proofs.lemmas.List.Filters.{length-filter_both}
use Rattle.std.proofs.lemmas.Grind.{flat_map-append}
use Rattle.metrics_core.specs.declared.kinds.MetricKind.TheVariants as kinds
use Rattle.metrics_core.specs.Numbers.{dogstatsd_number, one}
use Rattle.metrics_core.specs.declared.numbers.Fixed.{Fixed as FixedOf}
use Rattle.metrics_core.specs.Keys.{KeyText}
use Rattle.flushed_cells.specs.declared.counter_state.CounterState.{CounterState}
use Rattle.flushed_cells.specs.declared.gauge_state.GaugeState.{GaugeState}
use Rattle.dsd_writer.specs.Lines.{ItemText, lines_of, line_fits, is_left_out, left_out_values, kept_values, spelled_values}
use Rattle.dsd_writer.specs.Results.{Written, written_of}
use Rattle.dsd_writer.specs.Writers.{WriterText, SameSettings}
use Rattle.dsd_exporter.specs.State.{DogStatsDSettings, FlushItem, counter_item, gauge_item, lines_of_items}
use Rattle.dsd_exporter.specs.Updates.{UpdateText, with_item, with_items, rate_in}
use Rattle.dsd_exporter.specs.Flushing.{Sends, WritesOne, with_series, counter_line, gauge_line, rate_of, samples_item}

pub same_settings : (w v x : WriterText) → SameSettings w v → SameSettings v x → SameSettings w x
same_settings w v x a b = record {
  same_limit = b.same_limit ∙ a.same_limit;
  same_start = b.same_start ∙ a.same_start;
  same_tags = b.same_tags ∙ a.same_tags;
}

pub sends_nothing : (w v : WriterText) (u n : UpdateText) → SameSettings w v → v.lines ≡ w.lines → n ≡ u → Sends [] w v u n
sends_nothing w v u n settings lines same = record {
  settings = settings;
  lines = lines ∙ sym (append-nil w.lines);
  counted = same;
}

items-append : (limit : ℕ) (a b : List FlushItem) → lines_of_items limit (a ++ b) ≡ lines_of_items limit a ++ lines_of_items limit b
items-append limit a b = flat_map-append (λ (i : FlushItem). lines_of limit i.item i.values) a b

counts-append : (limit : ℕ) (u : UpdateText) (a b : List FlushItem) → with_items limit u (a ++ b) ≡ with_items limit (with_items limit u a) b
counts-append limit u [] b = refl
counts-append limit u (i ∷ a) b = counts-append limit (with_item limit u i) a b

pub sends_then : (a b : List FlushItem) (w v x : WriterText) (u n m : UpdateText) → Sends a w v u n → Sends b v x n m → Sends (a ++ b) w x u m
sends_then a b w v x u n m first then = record {
  settings = same_settings w v x first.settings then.settings;
  lines =
      then.lines ∙ (λ j. first.lines j ++ lines_of_items (first.settings.same_limit j) b) ∙ append_assoc w.lines (lines_of_items w.limit a) (lines_of_items w.limit b)
      ∙ ap (λ l. w.lines ++ l) (sym (items-append w.limit a b));
  counted = then.counted ∙ (λ j. with_items (first.settings.same_limit j) (first.counted j) b) ∙ sym (counts-append w.limit u a b);
}

-- the same where the writer only made room before
pub sends_behind : (a : List FlushItem) (w v x : WriterText) (u n : UpdateText) → SameSettings w v → v.lines ≡ w.lines → Sends a v x u n → Sends a w x u n
sends_behind a w v x u n settings lines sends = sends_then [] a w v x u u n (sends_nothing w v u u settings lines refl) sends

-- the number of a counter was written and counted, and that of a gauge
module _ (settings : DogStatsDSettings) (moment : ℕ) (key : KeyText) (w v : WriterText) (written : Written) (u n : UpdateText) where
  pub counter_sent : (x : CounterState) → WritesOne (counter_line settings w.global_tags moment key) (decimal x.delta) written w v
      → n ≡ with_series kinds.Counter (cond (nat_lt 0 written.left_out) 0 x.updates) written.left_out u → Sends (counter_item settings w.global_tags moment key x ∷ []) w v u n
  counter_sent x writes is = record {
    settings = writes.settings;
    lines = writes.lines ∙ ap (λ l. w.lines ++ l) (sym (append-nil (lines_of w.limit (counter_line settings w.global_tags moment key) (decimal x.delta ∷ []))));
    counted = is ∙ ap (λ (r : Written). with_series kinds.Counter (cond (nat_lt 0 r.left_out) 0 x.updates) r.left_out u) writes.written_is;
  }

  pub gauge_sent : (x : GaugeState) → WritesOne (gauge_line settings w.global_tags moment key) (dogstatsd_number x.value.0) written w v
      → n ≡ with_series kinds.Gauge (cond (nat_lt 0 written.left_out) 0 x.updates) written.left_out u → Sends (gauge_item settings w.global_tags moment key x ∷ []) w v u n
  gauge_sent x writes is = record {
    settings = writes.settings;
    lines = writes.lines ∙ ap (λ l. w.lines ++ l) (sym (append-nil (lines_of w.limit (gauge_line settings w.global_tags moment key) (dogstatsd_number x.value.0 ∷ []))));
    counted = is ∙ ap (λ (r : Written). with_series kinds.Gauge (cond (nat_lt 0 r.left_out) 0 x.updates) r.left_out u) writes.written_is;
  }

-- the values of a histogram were written and counted
module _ (distributions : Bool) (prefix : Option (List ℕ)) (key : KeyText) (rate : Option FixedOf) (values : List FixedOf) (w v : WriterText) (u n : UpdateText) (written : Written) (kept updates : ℕ) where
  abbrev item : ItemText
  item = (samples_item distributions prefix key w.global_tags rate values updates).item

  pub samples_sent : SameSettings w v → v.lines ≡ w.lines ++ lines_of w.limit item (spelled_values values) → written ≡ written_of w.limit item (spelled_values values)
      → kept ≡ length values - written.left_out → n ≡ with_series kinds.Histogram (kept * one / rate_in (rate_of rate)) written.left_out u
      → Sends (samples_item distributions prefix key w.global_tags rate values updates ∷ []) w v u n
  samples_sent settings lines is stands counted =
      let both = length-filter_both (λ (value : List ℕ). line_fits w.limit item (value ∷ [])) (is_left_out w.limit item) (λ x. refl) (spelled_values values) in
      let many = length-map values (λ (value : FixedOf). dogstatsd_number value.0) in
      let out : written.left_out ≡ length (left_out_values w.limit item (spelled_values values)) = ap (λ (r : Written). r.left_out) is in
      let same : kept ≡ length (kept_values w.limit item (spelled_values values)) = omega (arith, both, many, out, stands) in
      record {
        settings = settings;
        lines = lines ∙ ap (λ l. w.lines ++ l) (sym (append-nil (lines_of w.limit item (spelled_values values))));
        counted = counted ∙ (λ j. with_series kinds.Histogram (same j * one / rate_in (rate_of rate)) (out j) u);
      }
