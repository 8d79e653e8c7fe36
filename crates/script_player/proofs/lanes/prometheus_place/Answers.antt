use Rattle.std.proofs.Common.{subst}
use Rattle.prom_exporter.specs.LanePasses.{ids_of}
use Rattle.script_player.specs.LaneTables.{IsPlaceOf}
use Rattle.script_player.proofs.LaneTables.{prometheus_placed}
use Rattle.script_player.proofs.lanes.prometheus_place.Goals as goal

pub returns-in-Some : goal.returns-in-Some
returns-in-Some c =
    subst (λ own. IsPlaceOf (ids_of c.args.exporter.now) own c.index_near.result) c.in_ok-id.ensures
    (prometheus_placed c.args.exporter.now c.in_ok-id.id c.index_near.result c.index_near.ensures.numbered c.index_near.ensures.index)

pub returns-in-None : goal.returns-in-None
returns-in-None c =
    subst (λ own. IsPlaceOf (ids_of c.args.exporter.now) own c.index_of.result) c.in_ok-id.ensures
    (prometheus_placed c.args.exporter.now c.in_ok-id.id c.index_of.result c.index_of.ensures.numbered c.index_of.ensures.index)
