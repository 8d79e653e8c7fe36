-- The counters that an exporter keeps of its own work: their names, their labels, and what an update adds to each.
use Rattle.std.specs.Prelude.{ℕ, ◌+◌, codes, List, [], ◌∷◌, Option, Some, None}
use Rattle.metrics_core.specs.declared.kinds.MetricKind.{MetricKind}
use Rattle.metrics_core.specs.declared.kinds.MetricKind.TheVariants.{Counter, Gauge, Histogram}
use Rattle.metrics_core.specs.Keys.{KeyText, LabelText}
use Rattle.metrics_core.specs.Numbers.{in_64_bits}
use Rattle.dsd_exporter.specs.Updates.{UpdateText}
use Rattle.dsd_forwarder.specs.declared.own_counters.OwnCounter.{OwnCounter}
use Rattle.dsd_forwarder.specs.declared.own_counters.OwnCounter.TheVariants as own

-- ---- what they are called

abbrev pub own_name : OwnCounter → List ℕ
own_name own.Metrics = codes "datadog.dogstatsd.client.metrics"
own_name (own.MetricsByType kind) = codes "datadog.dogstatsd.client.metrics_by_type"
own_name own.PacketsSent = codes "datadog.dogstatsd.client.packets_sent"
own_name own.BytesSent = codes "datadog.dogstatsd.client.bytes_sent"
own_name own.PacketsDropped = codes "datadog.dogstatsd.client.packets_dropped"
own_name own.PacketsDroppedWriter = codes "datadog.dogstatsd.client.packets_dropped_writer"
own_name own.BytesDropped = codes "datadog.dogstatsd.client.bytes_dropped"
own_name own.BytesDroppedWriter = codes "datadog.dogstatsd.client.bytes_dropped_writer"
own_name own.PacketsDroppedSerializer = codes "datadog.dogstatsd.client.packets_dropped_serializer"
own_name own.AggregatedContext = codes "datadog.dogstatsd.client.aggregated_context"
own_name (own.AggregatedContextByType kind) = codes "datadog.dogstatsd.client.aggregated_context_by_type"

abbrev pub kind_text : MetricKind → List ℕ
kind_text Counter = codes "count"
kind_text Gauge = codes "gauge"
kind_text Histogram = codes "histogram"

-- the kind that a counter is of, where it is of one
abbrev pub own_type : OwnCounter → Option (List ℕ)
own_type own.Metrics = None
own_type (own.MetricsByType kind) = Some (kind_text kind)
own_type own.PacketsSent = None
own_type own.BytesSent = None
own_type own.PacketsDropped = None
own_type own.PacketsDroppedWriter = None
own_type own.BytesDropped = None
own_type own.BytesDroppedWriter = None
own_type own.PacketsDroppedSerializer = None
own_type own.AggregatedContext = None
own_type (own.AggregatedContextByType kind) = Some (kind_text kind)

abbrev pub label : List ℕ → List ℕ → LabelText
label key value = record { key = key; value = value }

abbrev pub type_labels : Option (List ℕ) → List LabelText
type_labels None = []
type_labels (Some type) = label (codes "metrics_type") type ∷ []

-- the labels tell of the client, of the transport that payloads go by, and of the kind
abbrev pub own_labels : List ℕ → OwnCounter → List LabelText
own_labels transport counter =
    label (codes "client") (codes "rust") ∷ label (codes "client_version") (codes "0.9.8")
    ∷ label (codes "client_transport") transport ∷ type_labels (own_type counter)

abbrev pub own_key : List ℕ → OwnCounter → KeyText
own_key transport counter = record { name = own_name counter; labels = own_labels transport counter }

-- all of them, in the order in which they are registered
abbrev pub own_counters : List OwnCounter
own_counters =
    own.Metrics ∷ own.MetricsByType Counter ∷ own.MetricsByType Gauge ∷ own.MetricsByType Histogram
    ∷ own.PacketsSent ∷ own.BytesSent
    ∷ own.PacketsDropped ∷ own.PacketsDroppedWriter ∷ own.BytesDropped ∷ own.BytesDroppedWriter ∷ own.PacketsDroppedSerializer
    ∷ own.AggregatedContext ∷ own.AggregatedContextByType Counter ∷ own.AggregatedContextByType Gauge ∷ own.AggregatedContextByType Histogram ∷ []

-- ---- what an update adds

abbrev pub points_of : UpdateText → MetricKind → ℕ
points_of u Counter = u.counter_points
points_of u Gauge = u.gauge_points
points_of u Histogram = u.histogram_points

abbrev pub contexts_of : UpdateText → MetricKind → ℕ
contexts_of u Counter = u.counter_contexts
contexts_of u Gauge = u.gauge_contexts
contexts_of u Histogram = u.histogram_contexts

abbrev pub all_points : UpdateText → ℕ
all_points u = in_64_bits (u.counter_points + u.gauge_points + u.histogram_points)

abbrev pub all_contexts : UpdateText → ℕ
all_contexts u = in_64_bits (u.counter_contexts + u.gauge_contexts + u.histogram_contexts)

-- packets are dropped by a send that fails, and where points of a series are left out; bytes by a send that fails alone
abbrev pub added : UpdateText → OwnCounter → ℕ
added u own.Metrics = all_points u
added u (own.MetricsByType kind) = points_of u kind
added u own.PacketsSent = u.packets_sent
added u own.BytesSent = u.bytes_sent
added u own.PacketsDropped = in_64_bits (u.packets_unsent + u.failed_serializations)
added u own.PacketsDroppedWriter = u.packets_unsent
added u own.BytesDropped = u.bytes_unsent
added u own.BytesDroppedWriter = u.bytes_unsent
added u own.PacketsDroppedSerializer = u.failed_serializations
added u own.AggregatedContext = all_contexts u
added u (own.AggregatedContextByType kind) = contexts_of u kind
