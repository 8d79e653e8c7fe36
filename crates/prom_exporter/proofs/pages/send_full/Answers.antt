use Rattle.std.proofs.Common.{subst, append-nil}
use Rattle.std.specs.Prelude.{[]}
use Rattle.std.proofs.lemmas.Result.{err_from_is_err_and}
use Rattle.prom_exporter.proofs.Progress.{sent-again, sent_prefix}
use Rattle.metrics_core.specs.Outside.{GrewByPrefix}
use Rattle.prom_exporter.proofs.pages.send_full.Goals as goal
use Rattle.prom_exporter.proofs.pages.send_full.Goals.{then-len-ge-PIECE+in_ok-write_whole, else-len-ge-PIECE}

pub returns-in_err-write_whole-clause-prefix : goal.returns-in_err-write_whole-clause-prefix
returns-in_err-write_whole-clause-prefix g c start bytes waits =
    let refusal = err_from_is_err_and c.from_residual.result c.from_residual.ensures.1 in
    rw refusal.1 (subst (GrewByPrefix start _) (append-nil bytes) (sent_prefix _ _ _ _ waits _ (rw (← c.as_bytes.ensures.value) c.in_err-write_whole.ensures.prefix) []))

pub returns-clause-sent : goal.returns-clause-sent
returns-clause-sent g c start bytes waits = elim c.if-len-ge-PIECE.branch [
  | then-len-ge-PIECE+in_ok-write_whole w ↦ rw (w.sink-is, w.buffer-is, w.clear.ensures.bytes) (sent-again _ _ _ _ waits _ (rw (← w.as_bytes.ensures.value) w.in_ok-write_whole.ensures.whole))
  | else-len-ge-PIECE w ↦ rw (w.sink-is, w.buffer-is) waits
]
