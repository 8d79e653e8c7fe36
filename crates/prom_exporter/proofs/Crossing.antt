-- An exporter may go to another thread, with the writer of its descriptions.
use denote.Builtin.{u64}
use denote.RattleType.{RattleType}
use denote.Hole.{as_row}
use denote.Param.Send.{IsSend, IsSync, sendable, view_send}
use denote.Param.SendFields.{declared_send, as_row_send}
use Rattle.std.specs.declared.alloc.Global.{Global}
use Rattle.std.specs.declared.sync.Arc.{Arc}
use Rattle.std.specs.declared.cmp.PartialEq as PartialEq
use Rattle.std.specs.declared.cmp.Eq as Eq
use Rattle.std.specs.declared.hash.Hash as Hash
use Rattle.std.specs.declared.hash.BuildHasher as Build
use Rattle.std.specs.declared.hash.Hasher as Hasher
use Rattle.crossbeam_utils.specs.declared.rule.Protocol as Protocol
use Rattle.left_right.specs.declared.Absorb as Absorb
use Rattle.left_right.proofs.writer.Writer.TheSendSync as writes
use Rattle.std.proofs.Crossing.{crosses}
use Rattle.value_bags.specs.declared.keep.Keep as Keep
use Rattle.evmap_contents.specs.declared.key.KeyClone as Key
use Rattle.evmap_contents.specs.declared.write.Write.{Write}
use Rattle.evmap_contents.proofs.inner.Inner.TheSendSync as inner
use Rattle.evmap_contents.proofs.write.Write.TheSendSync as write
use Rattle.evmap_core.proofs.Crossing.{Store-sync, Factory-send}
use Rattle.evmap_core.specs.declared.published.Published.{Published}
use Rattle.evmap_core.specs.declared.store.Store as declared
use Rattle.evmap_core.specs.declared.known_fronts.KnownFronts as known_fronts
use Rattle.evmap_core.specs.contracts.store.Store as Store
use Rattle.evmap_core.specs.contracts.writer.WriteHandle as Writer
use Rattle.std.specs.contracts.option.Option as Option
use Rattle.hash_starts.proofs.start.HashStart.TheSendSync as starts
use Rattle.hash_starts.specs.contracts.start.HashStart as HashStart
use Rattle.metrics_core.proofs.texts.CowStr.TheSendSync as texts
use Rattle.metrics_core.proofs.units.Unit.TheSendSync as units
use Rattle.value_bags.proofs.keep.KeepAll.TheSendSync as keeps
use Rattle.metric_descriptions.specs.contracts.descriptions.Descriptions as Descriptions
use Rattle.metrics_core.specs.contracts.numbers.Fixed as Fixed
use Rattle.metrics_registry.specs.contracts.registry.Registry as Registry
use Rattle.metrics_registry.proofs.registry.Registry.TheSendSync as registry
use Rattle.distributions.proofs.builder.DistributionBuilder.TheSendSync as distributions
use Rattle.series_cells.proofs.counter.PromCounter.TheSendSync as counters
use Rattle.series_cells.proofs.gauge.PromGauge.TheSendSync as gauges
use Rattle.series_cells.proofs.pass.CellPass.TheSendSync as passes
use Rattle.series_cells.specs.contracts.shared.PromCounterValueCell.TheImpl as counter_value
use Rattle.series_cells.specs.contracts.shared.PromCounterSharedCell.TheImpl as counter_cell
use Rattle.series_cells.specs.contracts.shared.PromGaugeValueCell.TheImpl as gauge_value
use Rattle.series_cells.specs.contracts.shared.PromGaugeSharedCell.TheImpl as gauge_cell
use Rattle.name_counts.proofs.name_counts.NameCounts.TheSendSync as counts
use Rattle.prom_exporter.proofs.cells.KeptCell.TheSendSync as cells
use Rattle.prom_exporter.proofs.rows.Rows.TheSendSync as rows
use Rattle.prom_exporter.proofs.sampled.HistogramCell.TheSendSync as sampled
use Rattle.prom_exporter.proofs.settings.Settings.TheSendSync as settings
use Rattle.prom_exporter.specs.contracts.state.PrometheusState as State
use Rattle.prom_exporter.specs.contracts.state.PrometheusState.TheInside as stored
use Rattle.metric_descriptions.specs.contracts.descriptions.Descriptions.TheInside as said

module _ (K V M P S L H : RattleType) (hash : Hash.Ghosts K.Denot) (eq : PartialEq.Ghosts K.Denot) (whole : Eq.Ghosts V.Denot) (same : PartialEq.Ghosts V.Denot) (hashes : Hash.Ghosts V.Denot) (build : Build.Ghosts S.Denot H.Denot) (hasher : Hasher.Ghosts H.Denot) where
  -- a copy of a map
  pub store-send : IsSend K → IsSync K → IsSend V → IsSync V → IsSend M → IsSync M → IsSend S → IsSync S → IsSend (Store.the_row K V M P S L H hash eq whole same hashes build hasher)
  store-send ks ky vs vy ms my ss sy =
      declared_send (Store.the_type K V M P S L H hash eq whole same hashes build hasher) (search (sendable, crosses, inner.the_send) depth 20, (search (sendable, crosses) depth 20, (search (sendable, crosses) depth 20, (search (sendable, crosses) depth 20, tt))))

module _ (K V M P S L H X : RattleType) (key : Key.Ghosts K.Denot L.Denot) (hash : Hash.Ghosts K.Denot) (eq : PartialEq.Ghosts K.Denot) (same : PartialEq.Ghosts V.Denot) (hashes : Hash.Ghosts V.Denot) (keep : Keep.Ghosts P.Denot V.Denot)
    (build : Build.Ghosts S.Denot H.Denot) (hasher : Hasher.Ghosts H.Denot) (absorb : Absorb.Ghosts (declared.Store K.Denot V.Denot M.Denot P.Denot S.Denot L.Denot H.Denot) (Write K.Denot (Arc V.Denot Global) (Arc M.Denot Global) P.Denot) X.Denot)
    (whole : Eq.Ghosts V.Denot) (rule : Protocol.Ghosts Published (declared.Store K.Denot V.Denot M.Denot P.Denot S.Denot L.Denot H.Denot) (known_fronts.KnownFronts L.Denot V.Denot M.Denot P.Denot)) where
  -- the writer of a map
  pub writer-send : IsSend K → IsSync K → IsSend V → IsSync V → IsSend M → IsSync M → IsSend P → IsSend S → IsSync S → IsSend (Writer.the_row K V M P S L H X key hash eq same hashes keep build hasher absorb whole rule)
  writer-send ks ky vs vy ms my ps ss sy =
      let copy = store-send K V M P S L H hash eq whole same hashes build hasher ks ky vs vy ms my ss sy in
      let shared = Store-sync K V M P S L H hash eq whole same hashes build hasher ky vs vy ms my sy in
      let factory = Factory-send K V M P S L H hash eq whole same hashes build hasher rule ky vs vy ms my sy in
      declared_send (Writer.the_type K V M P S L H X key hash eq same hashes keep build hasher absorb whole rule)
      (search (sendable, crosses, writes.the_send, write.the_send) depth 30 fits 20000, (factory, (search (sendable, crosses) depth 20, (search (sendable, crosses) depth 20, (search (sendable, crosses) depth 20, tt)))))

-- a thing that is there or not
option-send : (T : RattleType) → IsSend T → IsSend (as_row (Option.the_field T))
option-send T s = as_row_send (Option.the_field T) (search (sendable, crosses) depth 20)

-- what is said of metrics
pub descriptions-send : IsSend Descriptions.the_row
descriptions-send =
    view_send _ _ _ _ _ (declared_send said.the_type (
      option-send _ (search (sendable, crosses, writer-send, keeps.the_send, texts.the_send, texts.the_sync, units.the_send, units.the_sync, starts.the_send, starts.the_sync) depth 40 fits 4000),
      (as_row_send HashStart.the_field (search (sendable, crosses) depth 20), tt),
    ))

-- the live series
registry-send : (C G H : RattleType) → IsSend C → IsSend G → IsSend H → IsSend (as_row (Registry.the_field C G H))
registry-send C G H c g h = as_row_send (Registry.the_field C G H) (registry.the_send C G H c g h)

pub state-send : IsSend State.the_row
state-send =
    view_send _ _ _ _ _ (declared_send stored.the_type (
      search (sendable, crosses) depth 30 fits 4000,
      (
        search (sendable, crosses, settings.the_send) depth 30 fits 4000,
        (
          search (sendable, crosses, distributions.the_send) depth 30 fits 4000,
          (
            registry-send _ _ _
                (cells.the_send _ _ u64 counter_value.ghosts counter_cell.ghosts counters.the_send passes.the_send (search sendable) counters.the_sync)
                (cells.the_send _ _ Fixed.the_row gauge_value.ghosts gauge_cell.ghosts gauges.the_send passes.the_send (search sendable) gauges.the_sync)
                sampled.the_send,
            (search (sendable, crosses, rows.the_send) depth 30 fits 4000, (search (sendable, crosses, rows.the_send) depth 30 fits 4000, (search (sendable, crosses, rows.the_send) depth 30 fits 4000, (descriptions-send, (search (sendable, crosses, counts.the_send) depth 30 fits 4000, tt))))),
          ),
        ),
      ),
    ))
