-- What contracts read of a pass.
use Rattle.crossbeam_queue.specs.SegTies.{IsSegPassOf}
use Rattle.legal_history.specs.declared.history.View.{View}
use Rattle.sample_queue.specs.declared.calls.QueueCall.{QueueCall}
use Rattle.sample_queue.specs.declared.pass.SamplePass.{SamplePass}
use Rattle.sample_queue.specs.declared.queue.SampleQueue.{SampleQueue}

module _ {T : Type 0} where
  -- what the pass knows
  abbrev pub view_of : SamplePass T → View (QueueCall T)
  view_of pass = pass.seat.me.view.client

  -- the pass is one of this queue
  abbrev pub IsSamplePass : SampleQueue T → SamplePass T → Type 0
  IsSamplePass queue pass = IsSegPassOf queue.queue pass.seat
