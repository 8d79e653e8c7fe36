-- The series of both exporters by their indices: those of the DogStatsD exporter, then those of the Prometheus exporter.
use Rattle.std.proofs.Common.{◌≡◌, ℕ, ◌+◌, ◌-◌, ◌<◌, ◌≤◌, ◌++◌, length, map, set, ap, subst, ◌∙◌, ⊎_elim, arith}
use Rattle.std.proofs.lemmas.Bool.{cases_lt}
use mathlib.Core.Option.{some}
use lib.ListN.{get_elem?}
use Rattle.legal_history.specs.History.{Settled, child, lender}
use Rattle.legal_history.specs.Mapped.{IsOneToOne, mapped_view}
use Rattle.legal_history.proofs.Mapped.{settled-mapped}
use Rattle.cell_lanes.specs.Things.{TookBack}
use Rattle.cell_lanes.proofs.Lists.{below_some}
use Rattle.cell_lanes.proofs.Mapped.{took_back-mapped}
use Rattle.prom_exporter.specs.declared.lanes.LanePass.{LanePass as PrometheusPass}
use Rattle.prom_exporter.specs.declared.lanes.SeriesCell.{SeriesCell as PrometheusCell}
use Rattle.prom_exporter.specs.declared.lanes.SeriesEntry.{SeriesEntry as PrometheusEntry}
use Rattle.prom_exporter.specs.Exporter.{Exporter as PrometheusExporter}
use Rattle.prom_exporter.specs.LanePasses as P
use Rattle.dsd_exporter.specs.declared.lanes.LanePass.{LanePass as DogStatsDPass}
use Rattle.dsd_exporter.specs.declared.lanes.SeriesCell.{SeriesCell as DogStatsDCell}
use Rattle.dsd_exporter.specs.declared.lanes.SeriesEntry.{SeriesEntry as DogStatsDEntry}
use Rattle.dsd_exporter.specs.Exporter.{Exporter as DogStatsDExporter}
use Rattle.dsd_exporter.specs.LanePasses as D
use Rattle.exporter_lanes.specs.declared.exporters.Exporters.{Exporters}
use Rattle.exporter_lanes.specs.declared.exporters.ExporterCall.{ExporterCall}
use Rattle.exporter_lanes.specs.declared.exporters.ExporterCall.TheVariants as calls
use Rattle.exporter_lanes.specs.declared.exporters.ExporterCell.TheVariants as cells
use Rattle.exporter_lanes.specs.declared.exporters.ExporterPass.{ExporterPass}
use Rattle.exporter_lanes.specs.declared.exporters.ExporterPass.TheVariants as passes
use Rattle.exporter_lanes.specs.declared.exporters.ExporterEntry.{ExporterEntry}
use Rattle.exporter_lanes.specs.declared.exporters.ExporterEntry.TheVariants as entries
use Rattle.exporter_lanes.specs.ExporterLanes.{DogStatsDThing, ExporterThing, IsPassOf, Lasts, PrometheusThing, TakesCall, dogstatsd_thing, dogstatsd_things, first_prometheus, pass_known, prometheus_thing, prometheus_things, things_of}
use Rattle.exporter_lanes.proofs.Behind.{behind_all, behind_at, behind_set, front_all, front_at, front_set, many}

-- ---- no two calls of one exporter stand as one

prometheus_or : PrometheusEntry → ExporterEntry → PrometheusEntry
prometheus_or d (entries.Prometheus c) = c
prometheus_or d (entries.DogStatsD c) = d

pub one_prometheus : IsOneToOne entries.Prometheus
unfolding prometheus_or
one_prometheus a b e = ap (prometheus_or a) e

dogstatsd_or : DogStatsDEntry → ExporterEntry → DogStatsDEntry
dogstatsd_or d (entries.Prometheus c) = d
dogstatsd_or d (entries.DogStatsD c) = c

pub one_dogstatsd : IsOneToOne entries.DogStatsD
unfolding dogstatsd_or
one_dogstatsd a b e = ap (dogstatsd_or a) e

-- ---- what lasts of one exporter's cell lasts of it as one of both

dogstatsd_owns : (f g : DogStatsDCell) → D.Lasts f g → (lent : ExporterPass) → IsPassOf (cells.DogStatsD f) lent → IsPassOf (cells.DogStatsD g) lent
dogstatsd_owns f g lasts (passes.Prometheus lent) is = is
dogstatsd_owns f g lasts (passes.DogStatsD lent) is = D.owns_on f g lent lasts is

dogstatsd_takes : (f g : DogStatsDCell) → D.Lasts f g → (call : ExporterCall) → TakesCall (cells.DogStatsD f) call → TakesCall (cells.DogStatsD g) call
dogstatsd_takes f g lasts (calls.Prometheus call) takes = takes
dogstatsd_takes f g lasts (calls.DogStatsD call) takes = D.takes_on f g call lasts takes

dogstatsd_lasts : (f g : DogStatsDCell) → D.Lasts f g → Lasts (cells.DogStatsD f) (cells.DogStatsD g)
dogstatsd_lasts f g lasts = (dogstatsd_owns f g lasts, dogstatsd_takes f g lasts)

prometheus_owns : (f g : PrometheusCell) → P.Lasts f g → (lent : ExporterPass) → IsPassOf (cells.Prometheus f) lent → IsPassOf (cells.Prometheus g) lent
prometheus_owns f g lasts (passes.Prometheus lent) is = P.owns_on f g lent lasts is
prometheus_owns f g lasts (passes.DogStatsD lent) is = is

prometheus_takes : (f g : PrometheusCell) → P.Lasts f g → (call : ExporterCall) → TakesCall (cells.Prometheus f) call → TakesCall (cells.Prometheus g) call
prometheus_takes f g lasts (calls.Prometheus call) takes = P.takes_on f g call lasts takes
prometheus_takes f g lasts (calls.DogStatsD call) takes = takes

prometheus_lasts : (f g : PrometheusCell) → P.Lasts f g → Lasts (cells.Prometheus f) (cells.Prometheus g)
prometheus_lasts f g lasts = (prometheus_owns f g lasts, prometheus_takes f g lasts)

module _ (e : Exporters) where
  -- ---- what has an index

  pub many_things : length (things_of e) ≡ first_prometheus e + length (prometheus_things e)
  many_things = many dogstatsd_thing prometheus_thing (dogstatsd_things e) (prometheus_things e)

  pub dogstatsd_at : (i : ℕ) (t : DogStatsDThing) → get_elem? (dogstatsd_things e) i ≡ some t → get_elem? (things_of e) i ≡ some (dogstatsd_thing t)
  dogstatsd_at i t at = front_at dogstatsd_thing prometheus_thing (dogstatsd_things e) (prometheus_things e) i t at

  pub prometheus_at : (k : ℕ) (t : PrometheusThing) → get_elem? (prometheus_things e) k ≡ some t → get_elem? (things_of e) (first_prometheus e + k) ≡ some (prometheus_thing t)
  prometheus_at k t at = behind_at dogstatsd_thing prometheus_thing (dogstatsd_things e) (prometheus_things e) k t at

  -- the pass is one of what has an index
  abbrev pub IsPassAt : ℕ → ExporterPass → Type 0
  IsPassAt i lent = (t : ExporterThing) → get_elem? (things_of e) i ≡ some t → IsPassOf t.fixed lent

  -- a pass was lent of a thing, and one more is out
  abbrev pub LentOf : ℕ → ExporterPass → Exporters → ExporterThing → Type 0
  LentOf i lent new t = (u : ExporterThing) × (u.root ≡ lender t.root) × Lasts t.fixed u.fixed × IsPassOf u.fixed lent × (pass_known lent ≡ child t.root) × (things_of new ≡ set (things_of e) i u)

  -- the same of what has an index
  abbrev pub LentAt : ℕ → ExporterPass → Exporters → Type 0
  LentAt i lent new = (t : ExporterThing) → get_elem? (things_of e) i ≡ some t → LentOf i lent new t

  -- a pass was taken back of what has an index
  abbrev pub TakenAt : ℕ → ExporterPass → Exporters → Type 0
  TakenAt i lent new = (t : ExporterThing) → get_elem? (things_of e) i ≡ some t
      → (u : ExporterThing) × TookBack t.root (pass_known lent) u.root × (u.fixed ≡ t.fixed) × (things_of new ≡ set (things_of e) i u)

  -- where the first thing of the Prometheus exporter is
  module _ (first : ℕ) (is : first ≡ first_prometheus e) where
    -- what holds of each thing of an exporter with an index of its own holds of what has the index
    pub dogstatsd_all : (Q : ExporterThing → Type 0) (i : ℕ) → i < first → ((t : DogStatsDThing) → get_elem? (dogstatsd_things e) i ≡ some t → Q (dogstatsd_thing t))
        → (t : ExporterThing) → get_elem? (things_of e) i ≡ some t → Q t
    dogstatsd_all Q i below all = front_all dogstatsd_thing prometheus_thing (dogstatsd_things e) (prometheus_things e) Q i (subst (λ n. i < n) is below) all

    pub prometheus_all : (Q : ExporterThing → Type 0) (i : ℕ) → first ≤ i → i < length (things_of e)
        → ((t : PrometheusThing) → get_elem? (prometheus_things e) (i - first) ≡ some t → Q (prometheus_thing t))
        → (t : ExporterThing) → get_elem? (things_of e) i ≡ some t → Q t
    prometheus_all Q i past below all t at =
        let k = i - first in
        let own : k < length (prometheus_things e) = omega (arith, past, below, many_things, is) in
        let place : i ≡ first_prometheus e + k = omega (arith, past, is) in
        behind_all dogstatsd_thing prometheus_thing (dogstatsd_things e) (prometheus_things e) Q k own all t (subst (λ n. get_elem? (things_of e) n ≡ some t) place at)

    pub prometheus_here : (i : ℕ) (t : PrometheusThing) → first ≤ i → get_elem? (prometheus_things e) (i - first) ≡ some t → get_elem? (things_of e) i ≡ some (prometheus_thing t)
    prometheus_here i t past at =
        let place : first_prometheus e + (i - first) ≡ i = omega (arith, past, is) in
        subst (λ n. get_elem? (things_of e) n ≡ some (prometheus_thing t)) place (prometheus_at (i - first) t at)

    -- ---- where a pass belongs

    pub dogstatsd_below : (i : ℕ) (lent : DogStatsDPass) → i < length (things_of e) → IsPassAt i (passes.DogStatsD lent) → i < first
    dogstatsd_below i lent below of = ⊎_elim
        (λ (front : i < first). front)
        (λ (past : first ≤ i).
        let own = below_some (prometheus_things e) (i - first) (omega (arith, past, below, many_things, is)) in
        absurd (of (prometheus_thing own.0) (prometheus_here i own.0 past own.1)))
        (cases_lt i first)

    pub prometheus_past : (i : ℕ) (lent : PrometheusPass) → IsPassAt i (passes.Prometheus lent) → first ≤ i
    prometheus_past i lent of = ⊎_elim
        (λ (front : i < first). let own = below_some (dogstatsd_things e) i (subst (λ n. i < n) is front) in absurd (of (dogstatsd_thing own.0) (dogstatsd_at i own.0 own.1)))
        (λ (past : first ≤ i). past)
        (cases_lt i first)

    pub prometheus_within : (i : ℕ) → first ≤ i → i < length (things_of e) → i - first < length (prometheus_things e)
    prometheus_within i past below = omega (arith, past, below, many_things, is)

    -- ---- other things of one exporter

    pub dogstatsd_put : (d : DogStatsDExporter) (i : ℕ) (t : DogStatsDThing) → i < first → D.things_of d ≡ set (dogstatsd_things e) i t
        → things_of (record e { dogstatsd = d }) ≡ set (things_of e) i (dogstatsd_thing t)
    dogstatsd_put d i t below puts =
        ap (λ l. map dogstatsd_thing l ++ map prometheus_thing (prometheus_things e)) puts ∙ front_set dogstatsd_thing prometheus_thing (dogstatsd_things e) (prometheus_things e) i t (subst (λ n. i < n) is below)

    pub prometheus_put : (p : PrometheusExporter) (i : ℕ) (t : PrometheusThing) → first ≤ i → P.things_of p ≡ set (prometheus_things e) (i - first) t
        → things_of (record e { prometheus = p }) ≡ set (things_of e) i (prometheus_thing t)
    prometheus_put p i t past puts =
        let k = i - first in
        let place : first_prometheus e + k ≡ i = omega (arith, past, is) in
        ap (λ l. map dogstatsd_thing (dogstatsd_things e) ++ map prometheus_thing l) puts
        ∙ behind_set dogstatsd_thing prometheus_thing (dogstatsd_things e) (prometheus_things e) k t
        ∙ ap (λ n. set (things_of e) n (prometheus_thing t)) place

    -- ---- lending

    pub dogstatsd_lent : (i : ℕ) (lent : DogStatsDPass) (d : DogStatsDExporter) → i < first
        → ((t : DogStatsDThing) → get_elem? (dogstatsd_things e) i ≡ some t
        → (u : DogStatsDThing) × (u.root ≡ lender t.root) × D.Lasts t.fixed u.fixed × D.IsPassOf u.fixed lent × (D.pass_known lent ≡ child t.root) × (D.things_of d ≡ set (dogstatsd_things e) i u))
        → LentAt i (passes.DogStatsD lent) (record e { dogstatsd = d })
    dogstatsd_lent i lent d below own =
        dogstatsd_all (LentOf i (passes.DogStatsD lent) (record e { dogstatsd = d })) i below
        (λ t at. let u = own t at in (
          dogstatsd_thing u.0,
          ap (mapped_view entries.DogStatsD) u.1,
          dogstatsd_lasts t.fixed u.0.fixed u.2,
          u.3,
          ap (mapped_view entries.DogStatsD) u.4,
          dogstatsd_put d i u.0 below u.5,
        ))

    pub prometheus_lent : (i : ℕ) (lent : PrometheusPass) (p : PrometheusExporter) → first ≤ i → i < length (things_of e)
        → ((t : PrometheusThing) → get_elem? (prometheus_things e) (i - first) ≡ some t
        → (u : PrometheusThing) × (u.root ≡ lender t.root) × P.Lasts t.fixed u.fixed × P.IsPassOf u.fixed lent × (P.pass_known lent ≡ child t.root) × (P.things_of p ≡ set (prometheus_things e) (i - first) u))
        → LentAt i (passes.Prometheus lent) (record e { prometheus = p })
    prometheus_lent i lent p past below own =
        prometheus_all (LentOf i (passes.Prometheus lent) (record e { prometheus = p })) i past below
        (λ t at. let u = own t at in (
          prometheus_thing u.0,
          ap (mapped_view entries.Prometheus) u.1,
          prometheus_lasts t.fixed u.0.fixed u.2,
          u.3,
          ap (mapped_view entries.Prometheus) u.4,
          prometheus_put p i u.0 past u.5,
        ))

    -- ---- taking back

    pub dogstatsd_taken : (i : ℕ) (lent : DogStatsDPass) (d : DogStatsDExporter) → i < first
        → ((t : DogStatsDThing) → get_elem? (dogstatsd_things e) i ≡ some t
        → (u : DogStatsDThing) × TookBack t.root (D.pass_known lent) u.root × (u.fixed ≡ t.fixed) × (D.things_of d ≡ set (dogstatsd_things e) i u))
        → TakenAt i (passes.DogStatsD lent) (record e { dogstatsd = d })
    dogstatsd_taken i lent d below own =
        dogstatsd_all
        (λ t. (u : ExporterThing) × TookBack t.root (pass_known (passes.DogStatsD lent)) u.root × (u.fixed ≡ t.fixed) × (things_of (record e { dogstatsd = d }) ≡ set (things_of e) i u)) i below
        (λ t at. let u = own t at in (
          dogstatsd_thing u.0,
          took_back-mapped entries.DogStatsD t.root (D.pass_known lent) u.0.root u.1,
          ap (λ cell. (dogstatsd_thing (record u.0 { fixed = cell })).fixed) u.2,
          dogstatsd_put d i u.0 below u.3,
        ))

    pub prometheus_taken : (i : ℕ) (lent : PrometheusPass) (p : PrometheusExporter) → first ≤ i → i < length (things_of e)
        → ((t : PrometheusThing) → get_elem? (prometheus_things e) (i - first) ≡ some t
        → (u : PrometheusThing) × TookBack t.root (P.pass_known lent) u.root × (u.fixed ≡ t.fixed) × (P.things_of p ≡ set (prometheus_things e) (i - first) u))
        → TakenAt i (passes.Prometheus lent) (record e { prometheus = p })
    prometheus_taken i lent p past below own =
        prometheus_all
        (λ t. (u : ExporterThing) × TookBack t.root (pass_known (passes.Prometheus lent)) u.root × (u.fixed ≡ t.fixed) × (things_of (record e { prometheus = p }) ≡ set (things_of e) i u)) i past below
        (λ t at. let u = own t at in (
          prometheus_thing u.0,
          took_back-mapped entries.Prometheus t.root (P.pass_known lent) u.0.root u.1,
          ap (λ cell. (prometheus_thing (record u.0 { fixed = cell })).fixed) u.2,
          prometheus_put p i u.0 past u.3,
        ))

    -- ---- settling

    pub dogstatsd_settled : (i : ℕ) → i < first → ((t : DogStatsDThing) → get_elem? (dogstatsd_things e) i ≡ some t → Settled t.root)
        → (t : ExporterThing) → get_elem? (things_of e) i ≡ some t → Settled t.root
    dogstatsd_settled i below own = dogstatsd_all (λ t. Settled t.root) i below (λ t at. settled-mapped entries.DogStatsD t.root (own t at))

    pub prometheus_settled : (i : ℕ) → first ≤ i → i < length (things_of e) → ((t : PrometheusThing) → get_elem? (prometheus_things e) (i - first) ≡ some t → Settled t.root)
        → (t : ExporterThing) → get_elem? (things_of e) i ≡ some t → Settled t.root
    prometheus_settled i past below own = prometheus_all (λ t. Settled t.root) i past below (λ t at. settled-mapped entries.Prometheus t.root (own t at))
