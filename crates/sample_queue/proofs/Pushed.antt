-- What lanes pushed, as it stands in the history of a queue.
use Rattle.std.specs.Prelude.{flat_map}
use Rattle.std.proofs.Common.{◌≡◌, ℕ, List, [], ◌∷◌, ◌++◌, ap, ◌∙◌, subst, Option}
use Rattle.legal_history.specs.declared.history.View.{View}
use Rattle.legal_history.specs.History.{calls}
use Rattle.legal_history.specs.Object.{Runs}
use Rattle.legal_history.specs.Order.{taken, IsOrder}
use Rattle.cell_lanes.specs.Calls.{StandAs}
use Rattle.cell_lanes.specs.Lanes.{ReadAfter}
use Rattle.sample_queue.specs.declared.series.Sample.{Sample}
use Rattle.sample_queue.specs.declared.calls.SampleEntry.{SampleEntry}
use Rattle.sample_queue.specs.declared.calls.QueueCall.{QueueCall}
use Rattle.sample_queue.specs.Queues.{QueueStep, GivesOut}
use Rattle.sample_queue.specs.Rounds.{GivenOut}
use Rattle.sample_queue.specs.Series.{StandsAsPushes, pushes}
use Rattle.sample_queue.proofs.InOrder.{found}

module _ {T : Type 0} where
  stand_each : (es : List (Sample T)) (ms : List (QueueCall T)) → StandAs StandsAsPushes es ms → ms ≡ flat_map pushes es
  stand_each [] ms e = e
  stand_each (k ∷ ks) ms s = s.4 ∙ (ap (λ l. l ++ s.1) s.2 ∙ ap (λ l. pushes k ++ l) (stand_each ks s.1 s.3))

  pub given_out : (asked : ℕ → List (Sample T)) (before : View (QueueCall T)) (answer : Option (SampleEntry T)) → ReadAfter GivesOut StandsAsPushes asked before answer → GivenOut asked before answer
  given_out asked before answer after =
      let same : after.lists ≡ (λ l. flat_map pushes (asked l)) = λ i l. stand_each (asked l) (after.lists l) (after.stand l) i in
      let f = found after.found after.left answer after.reads_it after.root after.home in (
        after.order,
        subst (IsOrder after.order) same after.is_order,
        f.0,
        subst (λ (cs : List (QueueCall T)). Runs QueueStep [] cs f.0) (after.grew ∙ ap (λ (lists : ℕ → List (QueueCall T)). calls before.seen ++ taken after.order lists) same) f.1,
        f.2,
      )
