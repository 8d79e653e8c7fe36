-- A histogram series as an exporter keeps it, and where its samples are.
use Rattle.std.specs.Prelude.{◌≡◌, ◌-◌, ⊤, List, [], map, take, length, Option, Some, None}
use Rattle.std.specs.List.{FoldsTo}
use Rattle.std.specs.Arc.{arc_value}
use Rattle.legal_history.specs.declared.history.View.{View}
use Rattle.legal_history.specs.History.{first, lender, taker}
use Rattle.sample_queue.specs.Queues.{popped}
use Rattle.rolling_summaries.specs.Window.{Sample}
use Rattle.rolling_summaries.specs.Standing.{NeverFall}
use Rattle.distributions.specs.declared.distribution.Distribution.{Distribution}
use Rattle.distributions.specs.declared.distribution.Distribution.TheVariants as variants
use Rattle.distributions.specs.Kinds.{DistributionKind, NativeHistogram, Histogram, Summary}
use Rattle.distributions.specs.Recording.{RecordsTimes, StandsFor, StandsForMore, sample_of}
use Rattle.histogram_series.specs.Entries.{TimedEntry, TimedCall, TimedQueue, samples_of_entries, entries_known}

-- the queue; what the series' own pass of it knows; an entry that was taken out and is not recorded yet; the kind of distribution
pub record SampleSeries : Type 0 where
  pub cell : TimedQueue
  pub root : View TimedCall
  pub stray : Option TimedEntry
  pub kind : DistributionKind

-- a series that nobody has called, with no pass out
abbrev pub unused : DistributionKind → TimedQueue → SampleSeries
unused kind cell = record { cell = cell; root = first; stray = None; kind = kind }

-- no pass of the queue is out
abbrev pub IsHome : SampleSeries → Type 0
IsHome s = (s.root.number ≡ 0) × (s.root.out ≡ 0)

-- one more pass is out; a pass that knew so much was taken back
abbrev pub with_one_out : SampleSeries → SampleSeries
with_one_out s = record s { root = lender s.root }

abbrev pub with_one_back : View TimedCall → SampleSeries → SampleSeries
with_one_back known s = record s { root = taker s.root known }

-- ---- where the samples are

-- all that the series knows of, wherever it is: taken out of the queue, or in it
abbrev pub entries : SampleSeries → List TimedEntry
entries s = entries_known s.root

abbrev pub all_samples : SampleSeries → List Sample
all_samples s = samples_of_entries (entries s)

-- what was taken out is recorded, but for the last entry where that waits
abbrev pub but_waiting : Option TimedEntry → List TimedEntry → List TimedEntry
but_waiting None es = es
but_waiting (Some e) es = take (length es - 1) es

abbrev pub recorded : SampleSeries → List TimedEntry
recorded s = but_waiting s.stray (popped s.root.mine)

abbrev pub recorded_samples : SampleSeries → List Sample
recorded_samples s = samples_of_entries (recorded s)

-- ---- what the distribution keeps

-- the kind of a distribution
abbrev pub kind_of : Distribution → DistributionKind
kind_of (variants.Histogram histogram) = Histogram (map (λ bucket. bucket.0) histogram.buckets)
kind_of (variants.Summary window quantiles sum) =
    Summary (record { quantiles = (arc_value quantiles).items; bucket_count = window.limit; bucket_duration = window.width })
kind_of (variants.NativeHistogram histogram) = NativeHistogram histogram.config

-- an entry was recorded
abbrev pub RecordsEntry : Distribution → TimedEntry → Distribution → Type 0
RecordsEntry old e new = RecordsTimes old (sample_of e.item) e.count new

-- whether a distribution of a kind stands for the samples that were recorded may hang on their moments: a summary's are never to fall
abbrev pub AreInTurn : DistributionKind → List Sample → Type 0
AreInTurn (Summary summary) samples = NeverFall samples
AreInTurn (Histogram bounds) samples = ⊤
AreInTurn (NativeHistogram config) samples = ⊤

-- A distribution has these entries recorded: it came from one of no samples by recording them in turn. Where moments never fall,
-- it stands for their samples.
pub record HasRecorded (kind : DistributionKind) (es : List TimedEntry) (distribution : Distribution) : Type 0 where
  pub start : Distribution
  pub empty : StandsFor kind [] start
  pub records : FoldsTo RecordsEntry start es distribution
  pub stands : StandsForMore start (samples_of_entries es) distribution
