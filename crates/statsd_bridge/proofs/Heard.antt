-- What the calls of a receiver make of a bridge.
use Rattle.std.proofs.Common.{◌≡◌, ◌⊎◌, ℕ, Bool, List, inl, inr, refl, ⊎_elim, ◌∙◌}
use Rattle.dsd_lines.specs.declared.dialects.Dialect.TheVariants.{DogStatsd}
use Rattle.dsd_lines.specs.Payloads.{payload_lines}
use Rattle.dsd_receiver.specs.declared.receiver.Applied.{Applied}
use Rattle.dsd_receiver.specs.declared.receiver.ReceiveFault.{ReceiveFault}
use Rattle.dsd_receiver.specs.declared.receiver.ReceiveFault.TheVariants as faults
use Rattle.dsd_receiver.specs.Receiving.{IsApplied, IsStopped}
use Rattle.prom_exporter.specs.Exporter.{state_of}
use Rattle.statsd_bridge.specs.Bridge.{BridgeState, BridgeText, state_at}
use Rattle.statsd_bridge.specs.Counted.{account_text, cut_counted, heard_counted, nothing, untold}
use Rattle.statsd_bridge.specs.Hearing.{Accounts, AccountsInPart, Hears, HearsInPart, Misses, Shows, paged, shown_by}

module _ (moment : ℕ) (old new : BridgeText) (settings : new.exporter.settings ≡ old.exporter.settings) (dialect : new.dialect ≡ old.dialect) where
  pub heard : (payload : List ℕ) (applied : Applied) → IsApplied old.dialect moment (payload_lines payload) (state_of old.exporter) applied (state_of new.exporter)
      → new.unsaid ≡ heard_counted payload applied.lines applied.bad old.unsaid → Hears moment payload (state_at old) (state_at new)
  heard payload applied is unsaid = record {
    readings = is.readings;
    are_read = is.are_read;
    left = λ j. record { settings = settings j; dialect = dialect j; state = is.state j; unsaid = (unsaid ∙ (λ i. heard_counted payload (is.lines_are i) (is.bad_are i) old.unsaid)) j };
  }

  pub heard_in_part : (payload : List ℕ) (fault : ReceiveFault) → IsStopped old.dialect moment (payload_lines payload) (state_of old.exporter) fault (state_of new.exporter)
      → new.unsaid ≡ cut_counted payload old.unsaid → HearsInPart moment payload (state_at old) (state_at new)
  heard_in_part payload (faults.Memory flushed done registered values) is unsaid = record {
    done = done;
    registered = registered;
    values = values;
    stops = is.1;
    left = λ j. record { settings = settings j; dialect = dialect j; state = state_of new.exporter; unsaid = unsaid j };
  }

  pub accounted : (applied : Applied) → IsApplied DogStatsd moment (payload_lines (account_text old.unsaid)) (state_of old.exporter) applied (state_of new.exporter)
      → new.unsaid ≡ nothing → Accounts moment (state_at old) (state_at new)
  accounted applied is unsaid = record {
    receives = (is.readings, is.are_read, is.state);
    left = λ j. record { settings = settings j; dialect = dialect j; state = state_of new.exporter; unsaid = unsaid j };
  }

  pub accounted_in_part : (flushed registered : _) (done values : ℕ) → IsStopped DogStatsd moment (payload_lines (account_text old.unsaid)) (state_of old.exporter) (faults.Memory flushed done registered values) (state_of new.exporter)
      → new.unsaid ≡ untold done old.unsaid → AccountsInPart moment (state_at old) (state_at new)
  accounted_in_part flushed registered done values is unsaid = record {
    done = done;
    registered = registered;
    values = values;
    stops = is.1;
    left = λ j. record { settings = settings j; dialect = dialect j; state = state_of new.exporter; unsaid = unsaid j };
  }

-- what a fault tells
pub memory_of : (fault : ReceiveFault) → (flushed registered : Bool) × (done values : ℕ) × (fault ≡ faults.Memory flushed done registered values)
memory_of (faults.Memory flushed done registered values) = (flushed, registered, done, values, refl)

-- a page, and none
module _ (moment : ℕ) (b a c : BridgeState) (accounts : Accounts moment b a) where
  pub shown : (text : List ℕ) → text ≡ shown_by moment a → c ≡ paged moment a → Shows moment text b c
  shown text is left = record { accounted = a; accounts = accounts; text_is = is; left = left }

  pub missed : (c ≡ paged moment a) ⊎ (c ≡ a) → Misses moment b c
  missed left = inr (inr (a, accounts, left))

pub missed_early : (moment : ℕ) (b c : BridgeState) → (c ≡ b) ⊎ AccountsInPart moment b c → Misses moment b c
missed_early moment b c = ⊎_elim (λ same. inl same) (λ part. inr (inl part))
