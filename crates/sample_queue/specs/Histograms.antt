-- What a call on a histogram does to its queue.
use Rattle.std.specs.Prelude.{◌≡◌, ℕ, zero, suc, ℤ}
use Rattle.metrics_core.specs.declared.numbers.Fixed.{Fixed as FixedOf}
use Rattle.metrics_core.specs.Calls.{Call, Record}
use Rattle.metrics_core.specs.Fixed.{of_billionths}
use Rattle.legal_history.specs.declared.history.View.{View}
use Rattle.sample_queue.specs.declared.calls.QueueCall.{QueueCall}
use Rattle.sample_queue.specs.declared.calls.QueueCall.TheVariants.{Push}
use Rattle.sample_queue.specs.declared.pass.SamplePass.{SamplePass}
use Rattle.sample_queue.specs.Passes.{view_of}
use Rattle.sample_queue.specs.Queues.{Called, entry_of}

-- a sample with its moment, and a sample alone
abbrev pub timed : ℤ → ℕ → FixedOf × ℕ
timed value moment = (of_billionths value, moment)

abbrev pub untimed : ℤ → ℕ → FixedOf
untimed value moment = of_billionths value

-- a record of a value, so many times, is one push; a record of none is no call. Other calls are not for histograms
abbrev pub Follows : {T : Type 0} → (ℤ → ℕ → T) → Call → View (QueueCall T) → View (QueueCall T) → Type 0
Follows item (Record value moment zero) before after = after ≡ before
Follows item (Record value moment (suc more)) before after = Called (Push (entry_of (item value moment) (suc more))) before after
Follows item _ before after = ⊥

-- the same of passes; and no call was made between them
abbrev pub Records : {T : Type 0} → (ℤ → ℕ → T) → SamplePass T → Call → SamplePass T → Type 0
Records item before call after = Follows item call (view_of before) (view_of after)

abbrev pub Stays : {T : Type 0} → SamplePass T → SamplePass T → Type 0
Stays before after = view_of after ≡ view_of before
