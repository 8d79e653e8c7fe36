use denote.Param.Send.{sendable}
use Rattle.std.proofs.Crossing.{crosses}
use Rattle.service_metrics.proofs.Crossing.{metrics-sync}
use Rattle.scrape_bench.proofs.fn.main.run_exporters.Goals as goal

pub map_indices-requires-sync-F : goal.map_indices-requires-sync-F
map_indices-requires-sync-F g c κs within = search (sendable, crosses, metrics-sync) depth 40
