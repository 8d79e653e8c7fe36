use denote.Exit.{no}
use denote.Param.Send.{arg_send, mut_send, param_send, shr_send}
use Rattle.std.proofs.Common.{[], ◌∷◌}
use Rattle.std.proofs.Crossing.{Vec-send}
use Rattle.metrics_core.proofs.kinds.SeriesId.TheSendSync as ids
use Rattle.drive_script.proofs.script.Setup.TheSendSync as setups
use Rattle.script_player.proofs.guesses.Guesses.TheSendSync as guesses
use Rattle.script_player.proofs.Crossing.{alloc-lent, closure-send, lines-lent}
use Rattle.script_player.proofs.set_up.set_up_both.Lts.{arg-1-1}
use Rattle.script_player.proofs.set_up.set_up_both.Goals as goal

pub join_if-first-requires-send-F : goal.join_if-first-requires-send-F
join_if-first-requires-send-F g c κs within =
    param_send 1 (arg-1-1 g.row.R g.R.laws g.R.Threads-dict g.R.Wait-dict κs) (arg_send _ no _ (closure-send _ (_ ∷ _ ∷ _ ∷ _ ∷ _ ∷ _ ∷ []) (
      shr_send _ _ _ c.type_bounds.sync-R,
      (
        alloc-lent _ _,
        (lines-lent _ _, (mut_send _ _ _ (Vec-send _ ids.the_send), (mut_send _ _ _ guesses.the_send, (mut_send _ _ _ (Vec-send _ (Vec-send _ setups.the_send)), tt)))),
      ),
    )))
