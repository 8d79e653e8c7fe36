use denote.Builtin.{u64}
use denote.Exit.{no}
use denote.Param.Send.{arg_send, param_send, sendable, shr_send}
use Rattle.std.proofs.Common.{[], ◌∷◌}
use Rattle.script_player.proofs.Crossing.{alloc-lent, closure-send, flushes-lent, lines-lent}
use Rattle.script_player.proofs.page.write_both.Lts.{arg-0-1}
use Rattle.script_player.proofs.page.write_both.Goals as goal

pub join_if-flush-requires-send-F : goal.join_if-flush-requires-send-F
join_if-flush-requires-send-F g c κs within =
    param_send 1 (arg-0-1 g.row.R g.row.K g.R.laws g.K.laws g.R.Threads-dict g.R.Wait-dict g.K.Sink-dict κs) (arg_send _ no _ (closure-send _ (_ ∷ _ ∷ _ ∷ _ ∷ _ ∷ []) (
      flushes-lent _ _,
      (shr_send _ _ _ c.type_bounds.sync-R, (alloc-lent _ _, (lines-lent _ _, (shr_send _ _ u64 (search sendable), tt)))),
    )))
