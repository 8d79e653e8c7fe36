-- Both exporters together are at rest where each is.
use Rattle.std.proofs.Common.{◌≡◌, ℕ, ◌+◌, subst, ⊎_elim}
use mathlib.Core.Option.{some}
use lib.ListN.{get_elem?}
use Rattle.legal_history.specs.History.{Settled}
use Rattle.legal_history.proofs.Mapped.{settled-mapped}
use Rattle.cell_lanes.specs.Things.{Thing}
use Rattle.exporter_lanes.specs.declared.exporters.Exporters.{Exporters}
use Rattle.exporter_lanes.specs.declared.exporters.ExporterEntry.TheVariants as entries
use Rattle.exporter_lanes.specs.ExporterLanes.{ExporterThing, RestTogether, ThingsRest, dogstatsd_thing, dogstatsd_things, first_prometheus, prometheus_thing, prometheus_things, things_of}
use Rattle.exporter_lanes.proofs.Behind.{IsBehind, IsFront, which_at}
use Rattle.exporter_lanes.proofs.Things.{dogstatsd_at, one_dogstatsd, one_prometheus, prometheus_at}
use Rattle.exporter_lanes.proofs.Unmapped.{settled-back}

abbrev Rests : {M F : Type 0} → Thing M F → Type 0
Rests t = (t.root.number ≡ 0) × ((t.root.out ≡ 0) × Settled t.root)

module _ (e : Exporters) where
  pub prometheus_rests : ThingsRest (things_of e) → ThingsRest (prometheus_things e)
  prometheus_rests rest = (
    (λ j t at. rest.0 (first_prometheus e + j) (prometheus_thing t) (prometheus_at e j t at)),
    (λ j t at. let own = rest.1 (first_prometheus e + j) (prometheus_thing t) (prometheus_at e j t at) in (own.0, settled-back entries.Prometheus one_prometheus t.root own.1)),
  )

  pub dogstatsd_rests : ThingsRest (things_of e) → ThingsRest (dogstatsd_things e)
  dogstatsd_rests rest = (
    (λ j t at. rest.0 j (dogstatsd_thing t) (dogstatsd_at e j t at)),
    (λ j t at. let own = rest.1 j (dogstatsd_thing t) (dogstatsd_at e j t at) in (own.0, settled-back entries.DogStatsD one_dogstatsd t.root own.1)),
  )

  rests_at : ThingsRest (prometheus_things e) → ThingsRest (dogstatsd_things e) → (j : ℕ) (t : ExporterThing) → get_elem? (things_of e) j ≡ some t → Rests t
  rests_at prometheus dogstatsd j t at = ⊎_elim
      (λ (f : IsFront dogstatsd_thing prometheus_thing (dogstatsd_things e) (prometheus_things e) j t).
      let own = dogstatsd.1 j f.0 f.1 in
      subst Rests f.2 (dogstatsd.0 j f.0 f.1, (own.0, settled-mapped entries.DogStatsD f.0.root own.1)))
      (λ (b : IsBehind dogstatsd_thing prometheus_thing (dogstatsd_things e) (prometheus_things e) j t).
      let own = prometheus.1 b.0 b.2.0 b.2.1 in
      subst Rests b.2.2 (prometheus.0 b.0 b.2.0 b.2.1, (own.0, settled-mapped entries.Prometheus b.2.0.root own.1)))
      (which_at dogstatsd_thing prometheus_thing (dogstatsd_things e) (prometheus_things e) j t at)

  pub both_rest : ThingsRest (prometheus_things e) → ThingsRest (dogstatsd_things e) → ThingsRest (things_of e)
  both_rest prometheus dogstatsd = ((λ j t at. (rests_at prometheus dogstatsd j t at).0), (λ j t at. (rests_at prometheus dogstatsd j t at).1))

  pub rest_together : RestTogether e
  rest_together = ((λ rest. (prometheus_rests rest, dogstatsd_rests rest)), (λ each. both_rest each.0 each.1))
