use Rattle.std.proofs.Common.{◌∙◌, inr, refl, subst}
use Rattle.dsd_lines.specs.declared.dialects.Dialect.TheVariants.{DogStatsd}
use Rattle.dsd_lines.specs.Payloads.{payload_lines}
use Rattle.dsd_receiver.specs.Receiving.{IsApplied, IsStopped}
use Rattle.prom_exporter.specs.Exporter.{state_of}
use Rattle.statsd_bridge.specs.Bridge.{BridgeText, state_at}
use Rattle.statsd_bridge.specs.Counted.{account_text}
use Rattle.statsd_bridge.specs.Hearing.{Accounts, AccountsInPart}
use Rattle.statsd_bridge.proofs.Heard.{accounted, accounted_in_part, memory_of}
use Rattle.statsd_bridge.proofs.bridge.Bridge.account.Goals as goal

pub returns-in-Ok-clause-told : goal.returns-in-Ok-clause-told
returns-in-Ok-clause-told g c =
    let old : BridgeText = record { exporter = c.self.inside.receiver; dialect = c.self.inside.dialect; unsaid = c.self.inside.unsaid } in
    let new : BridgeText = record { exporter = c.apply_payload.new.self; dialect = c.self.inside.dialect; unsaid = c.none-self-inside.result } in
    let applied = subst (λ bytes. IsApplied DogStatsd c.args.moment (payload_lines bytes) (state_of c.self.inside.receiver) c.in-Ok.field-0 (state_of c.apply_payload.new.self))
    (c.as_bytes.ensures.value ∙ c.in_ok-text.ensures) c.in-Ok.ensures.applied in
    subst (λ b. Accounts c.args.moment (state_at b) (state_at new)) c.self.view_is
    (accounted c.args.moment old new c.in-Ok.ensures.settings refl c.in-Ok.field-0 applied c.none-self-inside.ensures)

pub returns-clause-in_part : goal.returns-clause-in_part
returns-clause-in_part g c =
    let old : BridgeText = record { exporter = c.self.inside.receiver; dialect = c.self.inside.dialect; unsaid = c.self.inside.unsaid } in
    let new : BridgeText = record { exporter = c.apply_payload.new.self; dialect = c.self.inside.dialect; unsaid = c.untold-self-inside.result } in
    let memory = memory_of c.in-Err-Memory.field-0 in
    let is = memory.4 in
    let stopped = subst (λ bytes. IsStopped DogStatsd c.args.moment (payload_lines bytes) (state_of c.self.inside.receiver) c.in-Err-Memory.field-0 (state_of c.apply_payload.new.self))
    (c.as_bytes.ensures.value ∙ c.in_ok-text.ensures) c.in-Err-Memory.ensures.refused in
    let told = rw is at c.untold-self-inside.ensures in
    let part = subst (λ fault. IsStopped DogStatsd c.args.moment (payload_lines (account_text c.self.inside.unsaid)) (state_of c.self.inside.receiver) fault (state_of c.apply_payload.new.self)) is stopped in
    inr (subst (λ b. AccountsInPart c.args.moment (state_at b) (state_at new)) c.self.view_is
    (accounted_in_part c.args.moment old new c.in-Err-Memory.ensures.settings refl memory.0 memory.1 memory.2 memory.3 part told))
